-- A duration by its grammar: numbers with units, one after the other, in descending units (IEC
-- 61131-3:2003, 2.2.3.1 and annex B.1.2.3.1).
use Rattle.std.specs.Prelude.{◌≡◌, ◌<◌, ⊤, ℕ, ◌*◌, Bool, true, false, List, [], ◌∷◌, ◌++◌, codes, Some}
use Rattle.std.specs.List.{flat_map, sum_by}
use Rattle.bay_base.specs.Names.{same_name}
use Rattle.il_text.specs.Literals.{number_of_part, milliseconds}

-- ---- IEC 61131-3 B.1.2.3.1: durations

-- the units of a duration, the greatest first
pub data Unit : Type 0 where
  days : Unit
  hours : Unit
  minutes : Unit
  seconds : Unit
  thousandths : Unit

-- the letters of a unit, which may be written in either case
abbrev pub unit_letters : Unit → List ℕ
unit_letters days = codes "d"
unit_letters hours = codes "h"
unit_letters minutes = codes "m"
unit_letters seconds = codes "s"
unit_letters thousandths = codes "ms"

-- the milliseconds of a unit
abbrev pub unit_ms : Unit → ℕ
unit_ms days = 86400000
unit_ms hours = 3600000
unit_ms minutes = 60000
unit_ms seconds = 1000
unit_ms thousandths = 1

-- a part of a duration: the octets of its number, those of its unit, and the number and unit that
-- they spell
pub record DurationPart : Type 0 where
  pub digits : List ℕ
  pub name : List ℕ
  pub count : ℕ
  pub unit : Unit

-- the octets of a part
abbrev pub part_octets : DurationPart → List ℕ
part_octets p = p.digits ++ p.name

-- the milliseconds of a part
abbrev pub part_ms : DurationPart → ℕ
part_ms p = p.count * unit_ms p.unit

-- The octets of this part spell its number and its unit. After another part (`behind`), an `_` may
-- precede the number.
pub record IsPart (behind : Bool) (p : DurationPart) : Type 0 where
  pub counted : number_of_part behind p.digits ≡ Some p.count
  pub named : same_name p.name (unit_letters p.unit) ≡ true

-- The parts may follow a part whose unit has `above` milliseconds: each has a smaller unit than the
-- one before it.
abbrev pub UnitsFall : ℕ → List DurationPart → Type 0
UnitsFall above [] = ⊤
UnitsFall above (p ∷ ps) = IsPart true p × (unit_ms p.unit < above) × UnitsFall (unit_ms p.unit) ps

-- The octets are a duration of `ms` milliseconds: at least one part, in descending units, spelled
-- one after the other; `ms` is the sum of the parts.
pub record IsDuration (octets : List ℕ) (ms : ℕ) : Type 0 where
  pub first : DurationPart
  pub more : List DurationPart
  pub begins : IsPart false first
  pub falls : UnitsFall (unit_ms first.unit) more
  pub spelled : octets ≡ flat_map part_octets (first ∷ more)
  pub summed : ms ≡ sum_by part_ms (first ∷ more)

-- Octets have this number of milliseconds exactly if they are a duration of this many (own).
abbrev pub DurationsAreRead : Type 0
DurationsAreRead = (octets : List ℕ) (ms : ℕ)
    → (milliseconds octets ≡ Some ms → IsDuration octets ms)
    × (IsDuration octets ms → milliseconds octets ≡ Some ms)
