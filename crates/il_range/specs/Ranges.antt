-- The values of a range.
use Rattle.std.specs.Prelude.{ℕ, ◌≡◌, ◌-◌, ◌<◌, ◌≤◌, ◌≤ℤ◌, nat_le, is_some, Bool, ◌&&◌, ◌||◌, if◌then◌else◌, Option, Some, None, option_and_then, true, false, List, [], ◌∷◌, slice_get}
use Rattle.il_image.specs.declared.value.Value.{Value}
use Rattle.il_image.specs.declared.value.Value.TheVariants.{Truth, Short, Long, Wide, Span}
use Rattle.il_image.specs.Values.{number_of}
use Rattle.bay_base.specs.declared.types.TimerKind.{TimerKind}
use Rattle.bay_base.specs.declared.types.TimerKind.TheVariants.{OnDelay, OffDelay}
use Rattle.bay_base.specs.declared.position.Dbpos.{Dbpos}
use Rattle.bay_base.specs.declared.position.Dbpos.TheVariants.{Intermediate, Off, On, Bad}
use Rattle.il_image.specs.declared.timer.TimerPhase.{TimerPhase}
use Rattle.il_image.specs.declared.timer.TimerPhase.TheVariants.{Idle, Held, Since}
use Rattle.il_image.specs.declared.timer.TimerState.{TimerState}
use Rattle.il_range.specs.declared.delay.KnownDelay.{KnownDelay}
use Rattle.il_range.specs.declared.delay.KnownDelay.TheVariants.{Unknown, Below, Begun, AtLeast}
use Rattle.il_range.specs.declared.timer.KnownTimer.{KnownTimer}
use Rattle.il_range.specs.declared.range.Range.{Range}
use Rattle.il_range.specs.declared.range.Positions.{Positions}
use Rattle.il_range.specs.declared.range.Range.TheVariants.{Any, No, Yes, Either, Between, Among}

-- what ranges and delays refer to: the position of each switch, and a moment, the mark
pub record Setting : Type 0 where
  pub position : ℕ → Dbpos
  pub mark : ℕ

-- the position is in the set
abbrev pub has_position : Positions → Dbpos → Bool
has_position s Intermediate = s.intermediate
has_position s Off = s.off
has_position s On = s.on
has_position s Bad = s.bad

-- whether the set has each position
abbrev pub are_all : Positions → Bool
are_all s = s.intermediate && (s.off && (s.on && s.bad))

-- whether the set has a position
abbrev pub are_any : Positions → Bool
are_any s = s.intermediate || (s.off || (s.on || s.bad))

-- the range of whether a switch has one of these positions
abbrev pub among : ℕ → Positions → Range
among k s = if are_all s then Yes else (if are_any s then Among k s else No)

-- The value is a BOOL.
abbrev pub IsTruth : Value → Type 0
IsTruth (Truth b) = Unit {0}
IsTruth (Short z) = ⊥
IsTruth (Long z) = ⊥
IsTruth (Wide z) = ⊥
IsTruth (Span n) = ⊥

-- The value is TRUE.
abbrev pub IsTrueValue : Value → Type 0
IsTrueValue (Truth true) = Unit {0}
IsTrueValue (Truth false) = ⊥
IsTrueValue (Short z) = ⊥
IsTrueValue (Long z) = ⊥
IsTrueValue (Wide z) = ⊥
IsTrueValue (Span n) = ⊥

-- The value is FALSE.
abbrev pub IsFalseValue : Value → Type 0
IsFalseValue (Truth true) = ⊥
IsFalseValue (Truth false) = Unit {0}
IsFalseValue (Short z) = ⊥
IsFalseValue (Long z) = ⊥
IsFalseValue (Wide z) = ⊥
IsFalseValue (Span n) = ⊥

-- The value is one of the range, in this setting: its number is between both ends, or it is a BOOL;
-- or it is whether a switch has one of some positions.
abbrev pub IsIn : Setting → Value → Range → Type 0
IsIn w v Any = Unit {0}
IsIn w v No = IsFalseValue v
IsIn w v Yes = IsTrueValue v
IsIn w v Either = IsTruth v
IsIn w v (Between low high) = (low ≤ℤ number_of v) × (number_of v ≤ℤ high)
IsIn w v (Among k s) = v ≡ Truth (has_position s (w.position k))

-- The lists have the same length, and each item has the relation to the other at the same index.
abbrev pub AreEach : {A B : Type 0} → (A → B → Type 0) → List A → List B → Type 0
AreEach Fits [] [] = Unit {0}
AreEach Fits (x ∷ xs) (y ∷ ys) = Fits x y × AreEach Fits xs ys
AreEach Fits [] (y ∷ ys) = ⊥
AreEach Fits (x ∷ xs) [] = ⊥

-- Each value is one of the range at the same index.
abbrev pub AreIn : Setting → List Value → List Range → Type 0
AreIn w values ranges = AreEach (IsIn w) values ranges

-- The kind is the known one, if one is known.
abbrev pub IsKind : TimerKind → Option TimerKind → Type 0
IsKind kind None = Unit {0}
IsKind kind (Some known) = kind ≡ known

-- the moment at which the delay began, if one runs
abbrev pub delay_start : TimerPhase → Option ℕ
delay_start Idle = None
delay_start Held = None
delay_start (Since start) = Some start

-- the moment at which the delay of the timer at an index began, if one runs
abbrev pub delay_start_at : ℕ → List TimerState → Option ℕ
delay_start_at n timers =
    option_and_then (λ (t : TimerState). delay_start t.phase) (slice_get timers n)

-- The moment at which the delay began, for as long as IN stays as it is. A TOF whose IN has never
-- been TRUE counts as one whose delay began at moment 0.
abbrev pub delay_onset : TimerKind → TimerPhase → Option ℕ
delay_onset kind (Since start) = Some start
delay_onset OnDelay Idle = None
delay_onset OffDelay Idle = Some 0
delay_onset kind Held = None

-- the moment at which the delay of the timer at an index began, for as long as IN stays as it is
abbrev pub delay_onset_at : ℕ → List TimerState → Option ℕ
delay_onset_at n timers =
    option_and_then (λ (t : TimerState). delay_onset t.kind t.phase) (slice_get timers n)

-- it is a moment no later than the mark
abbrev pub is_by : ℕ → Option ℕ → Bool
is_by mark None = false
is_by mark (Some start) = nat_le start mark

-- The delay is as it is known to be. A delay that runs began less than a number of milliseconds
-- ago; it has begun; or it began no later than the mark, which is at least a number of milliseconds
-- ago.
abbrev pub IsDelay : ℕ → ℕ → TimerKind → TimerPhase → KnownDelay → Type 0
IsDelay mark now kind phase Unknown = Unit {0}
IsDelay mark now kind Idle (Below n) = Unit {0}
IsDelay mark now kind Held (Below n) = Unit {0}
IsDelay mark now kind (Since start) (Below n) = now - start < n
IsDelay mark now kind phase Begun = is_some (delay_onset kind phase) ≡ true
IsDelay mark now kind phase (AtLeast n) =
    (is_by mark (delay_onset kind phase) ≡ true) × (n ≤ now - mark)

-- The delays of the first timers are as they are known to be; a timer that is missing has no delay.
abbrev pub AreDelays : ℕ → ℕ → List TimerState → List KnownDelay → Type 0
AreDelays mark now timers [] = Unit {0}
AreDelays mark now [] (d ∷ delays) =
    IsDelay mark now OnDelay Idle d × AreDelays mark now [] delays
AreDelays mark now (t ∷ timers) (d ∷ delays) =
    IsDelay mark now t.kind t.phase d × AreDelays mark now timers delays

-- At this moment, the timer is one of those that `u` describes.
pub record IsTimerIn (w : Setting) (now : ℕ) (t : TimerState) (u : KnownTimer) : Type 0 where
  pub of_kind : IsKind t.kind u.kind
  pub in_input : IsIn w (Truth t.input) u.input
  pub in_preset : IsIn w (Span t.preset) u.preset
  pub in_output : IsIn w (Truth t.output) u.output
  pub in_elapsed : IsIn w (Span t.elapsed) u.elapsed
  pub in_delay : IsDelay w.mark now t.kind t.phase u.delay

-- Each timer is one of those at the same index.
abbrev pub AreTimersIn : Setting → ℕ → List TimerState → List KnownTimer → Type 0
AreTimersIn w now timers known = AreEach (IsTimerIn w now) timers known

-- the kind of a timer
abbrev pub kind_of : TimerState → TimerKind
kind_of t = t.kind
