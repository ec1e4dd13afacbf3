-- Inner: what is known of a point before the first scan, and of the timers at the start of a scan.
use Rattle.std.specs.Prelude.{List, [], ◌∷◌, drop, Some}
use Rattle.bay_base.specs.declared.types.TimerKind.{TimerKind}
use Rattle.il_image.specs.declared.image.ImagePoint.{ImagePoint}
use Rattle.il_image.specs.Values.{default_value}
use Rattle.il_range.specs.Effects.{value_range}
use Rattle.il_range.specs.declared.delay.KnownDelay.{KnownDelay}
use Rattle.il_range.specs.declared.delay.KnownDelay.TheVariants.{Unknown}
use Rattle.il_range.specs.declared.timer.KnownTimer.{KnownTimer}
use Rattle.il_range.specs.declared.range.Range.{Range}
use Rattle.il_range.specs.declared.range.Range.TheVariants.{Any, Either}

-- the range of a point's slot before the first scan: the default value of its type
abbrev pub range_of_point : ImagePoint → Range
range_of_point p = value_range (default_value p.elementary)

-- a timer of which the kind is known, and its delay
abbrev pub known_of_kind : TimerKind → KnownDelay → KnownTimer
known_of_kind kind delay = record {
  kind = Some kind;
  input = Either;
  preset = Any;
  output = Either;
  elapsed = Any;
  delay = delay;
}

-- what is known of the first delay
abbrev pub first_delay : List KnownDelay → KnownDelay
first_delay [] = Unknown
first_delay (d ∷ delays) = d

-- timers of which the kinds are known, and the delays of the first ones
abbrev pub known_of_kinds : List TimerKind → List KnownDelay → List KnownTimer
known_of_kinds [] delays = []
known_of_kinds (kind ∷ kinds) delays =
    known_of_kind kind (first_delay delays) ∷ known_of_kinds kinds (drop 1 delays)
