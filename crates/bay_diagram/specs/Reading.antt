-- What is known of switches and inputs, by what the process reports.
use Rattle.std.specs.Prelude.{ℕ, ◌≡◌, Bool, true, false, not, ◌&&◌, ◌||◌, Option, None, Some, slice_get}
use Rattle.bay_base.specs.declared.position.Dbpos.{Dbpos}
use Rattle.bay_base.specs.declared.position.Dbpos.TheVariants.{Intermediate, Off, On, Bad}
use Rattle.bay_diagram.specs.declared.network.Device.{Device}
use Rattle.bay_diagram.specs.declared.network.Device.TheVariants.{Own, Other}
use Rattle.bay_diagram.specs.declared.reading.Bound.{Bound}
use Rattle.bay_diagram.specs.declared.reading.Bound.TheVariants.{Worst, Best}
use Rattle.bay_diagram.specs.declared.reading.InputSet.{InputSet}
use Rattle.bay_diagram.specs.declared.reading.PositionSet.{PositionSet}
use Rattle.bay_diagram.specs.declared.reading.Known.{Known}
use Rattle.bay_base.specs.Positions.{same_position}
use Rattle.bay_audit_rules.specs.Process.{Process}

-- What is known of a switch, by its device, and of an input, such as one that shows a source dead.
pub record Reading : Type 0 where
  -- it may be closed: it is not known to be open
  pub may_conduct : Device → Bool
  -- it is known to be closed
  pub conducts : Device → Bool
  -- it may be on its way: it is not known to be in an end position
  pub may_move : Device → Bool
  -- the input may be FALSE: it is not known to be TRUE, or there is none
  pub may_be_false : Option ℕ → Bool

-- In the second less is known, or as much.
pub record IsWorse (r worse : Reading) : Type 0 where
  pub may_conduct : (d : Device) → r.may_conduct d ≡ true → worse.may_conduct d ≡ true
  pub conducts : (d : Device) → worse.conducts d ≡ true → r.conducts d ≡ true
  pub may_move : (d : Device) → r.may_move d ≡ true → worse.may_move d ≡ true
  pub may_be_false : (i : Option ℕ) → r.may_be_false i ≡ true → worse.may_be_false i ≡ true

-- ---- of a process

-- the input is TRUE
abbrev pub is_true_input : Process → Option ℕ → Bool
is_true_input p None = false
is_true_input p (Some k) = p.input k

-- a switch of the bay is known by its position, a switch of another bay by that one of its two
-- inputs which alone is TRUE
abbrev pub is_open : Process → Device → Bool
is_open p (Own k) = same_position (p.position k) Off
is_open p (Other closed opened) = is_true_input p opened && not (is_true_input p closed)

-- the switch is known to be closed
abbrev pub is_closed : Process → Device → Bool
is_closed p (Own k) = same_position (p.position k) On
is_closed p (Other closed opened) = is_true_input p closed && not (is_true_input p opened)

-- what is known from the values that a process reports
abbrev pub reading_of : Process → Reading
reading_of p = record {
  may_conduct = λ d. not (is_open p d);
  conducts = λ d. is_closed p d;
  may_move = λ d. not (is_open p d || is_closed p d);
  may_be_false = λ i. not (is_true_input p i);
}

-- ---- of a case

-- the positions that each switch may have in a case, and the values that each input may have
pub record Allowed : Type 0 where
  pub position : ℕ → Dbpos → Bool
  pub input : ℕ → Bool → Bool

-- The process has only positions and values that are allowed.
pub record IsAllowed (a : Allowed) (p : Process) : Type 0 where
  pub positions : (k : ℕ) → a.position k (p.position k) ≡ true
  pub inputs : (k : ℕ) → a.input k (p.input k) ≡ true

-- The case allows no other position or value than those of the process.
pub record IsOnly (a : Allowed) (p : Process) : Type 0 where
  pub positions : (k : ℕ) (position : Dbpos) → a.position k position ≡ true
      → p.position k ≡ position
  pub inputs : (k : ℕ) (value : Bool) → a.input k value ≡ true → p.input k ≡ value

-- the input may have the value
abbrev pub may_have_value : Allowed → Option ℕ → Bool → Bool
may_have_value a None value = not value
may_have_value a (Some k) value = a.input k value

-- the switch may be known to be open
abbrev pub may_be_open : Allowed → Device → Bool
may_be_open a (Own k) = a.position k Off
may_be_open a (Other closed opened) = may_have_value a opened true && may_have_value a closed false

-- the switch may be known to be closed
abbrev pub may_be_closed : Allowed → Device → Bool
may_be_closed a (Own k) = a.position k On
may_be_closed a (Other closed opened) =
    may_have_value a closed true && may_have_value a opened false

-- the switch may be known neither to be open nor to be closed
abbrev pub may_be_neither : Allowed → Device → Bool
may_be_neither a (Own k) = a.position k Intermediate || a.position k Bad
may_be_neither a (Other closed opened) =
    may_have_value a closed true && may_have_value a opened true
    || may_have_value a closed false && may_have_value a opened false

-- the worst of what can be known in a case
abbrev pub worst_of : Allowed → Reading
worst_of a = record {
  may_conduct = λ d. may_be_closed a d || may_be_neither a d;
  conducts = λ d. not (may_be_open a d || may_be_neither a d);
  may_move = λ d. may_be_neither a d;
  may_be_false = λ i. may_have_value a i false;
}

-- the best of what can be known in a case
abbrev pub best_of : Allowed → Reading
best_of a = record {
  may_conduct = λ d. not (may_be_open a d);
  conducts = λ d. may_be_closed a d;
  may_move = λ d. not (may_be_open a d || may_be_closed a d);
  may_be_false = λ i. not (may_have_value a i true);
}

-- ---- as the program has it

-- the set has the position; a switch without a set may have any
abbrev pub has_position : Option PositionSet → Dbpos → Bool
has_position None position = true
has_position (Some s) Intermediate = s.intermediate
has_position (Some s) Off = s.off
has_position (Some s) On = s.on
has_position (Some s) Bad = s.bad

-- the set has the value; an input without a set may have any
abbrev pub has_value : Option InputSet → Bool → Bool
has_value None value = true
has_value (Some s) true = s.yes
has_value (Some s) false = s.no

-- the positions and values that a case of the code allows
abbrev pub allowed_by : Known → Allowed
allowed_by known = record {
  position = λ k. has_position (slice_get known.positions k);
  input = λ k. has_value (slice_get known.inputs k);
}

-- the worst or the best of what can be known in a case
abbrev pub reading_at : Bound → Allowed → Reading
reading_at Worst a = worst_of a
reading_at Best a = best_of a

-- what is known in a case of the code
abbrev pub reading_in : Known → Reading
reading_in known = reading_at known.bound (allowed_by known)

-- ---- laws

-- What is known in each process of a case lies between the best and the worst of the case.
abbrev pub ReadingsBound : Type 0
ReadingsBound = (a : Allowed) (p : Process) → IsAllowed a p
    → IsWorse (best_of a) (reading_of p) × IsWorse (reading_of p) (worst_of a)
