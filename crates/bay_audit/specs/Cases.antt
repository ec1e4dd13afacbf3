-- A case: some tests of the process have these answers.
use Rattle.std.specs.Prelude.{◌≡◌, ◌≤ℤ◌, ℕ, zero, suc, ℤ, ◌+ℤ◌, negsuc, pos, int_le, int_lt, Bool, true, false, not, ◌&&◌, ◌||◌, ◌==◌, List, [], ◌∷◌, ◌++◌, fold, if◌then◌else◌}
use Rattle.std.specs.Bool.{beq}
use Rattle.std.specs.List.{list_all}
use Rattle.bay_base.specs.declared.point.MeterField.{MeterField}
use Rattle.bay_base.specs.declared.point.MeterField.TheVariants.{TotW, TotVAr, Hz, PhaseA, PhaseB, PhaseC}
use Rattle.bay_base.specs.declared.point.Source.{Source}
use Rattle.bay_base.specs.declared.point.Source.TheVariants as source
use Rattle.bay_base.specs.declared.point.SwitchPoint.{SwitchPoint}
use Rattle.bay_base.specs.declared.point.SwitchPoint.TheVariants.{Position, Open, Closed, EnableOpen, EnableClose}
use Rattle.bay_base.specs.declared.position.Dbpos.{Dbpos}
use Rattle.bay_base.specs.declared.position.Dbpos.TheVariants.{Intermediate, Off, On, Bad}
use Rattle.il_range.specs.Ranges.{among, has_position}
use Rattle.il_range.specs.declared.range.Positions.{Positions}
use Rattle.il_range.specs.declared.range.Range.{Range}
use Rattle.il_range.specs.declared.range.Range.TheVariants.{No, Yes, Either, Between}
use Rattle.bay_base.specs.Positions.{same_position}
use Rattle.bay_audit_rules.specs.Process.{Process}
use Rattle.bay_audit.specs.declared.case.TestAnswer.{TestAnswer}
use Rattle.bay_audit.specs.declared.case.Test.{Test}
use Rattle.bay_audit.specs.declared.case.Test.TheVariants as test

-- ---- cases

-- the answer of a test: the switch has one of these positions, the input is TRUE, the measured
-- value is at most this number
abbrev pub answer_of : Process → Test → Bool
answer_of p (test.Position k positions) = has_position positions (p.position k)
answer_of p (test.Input k) = p.input k
answer_of p (test.AtMost k field most) = int_le (p.measure k field) most

-- the process gives the test its answer
abbrev pub meets : Process → TestAnswer → Bool
meets p l = beq (answer_of p l.test) l.value

-- the process is in the case
abbrev pub is_in : List TestAnswer → Process → Bool
is_in case p = list_all (meets p) case

-- ---- the case of a process that is lost

-- the set of a position alone
abbrev pub only : Dbpos → Positions
only which = record {
  intermediate = same_position which Intermediate;
  off = same_position which Off;
  on = same_position which On;
  bad = same_position which Bad;
}

-- each of the first n switches has a bad position
abbrev pub bad_positions : ℕ → List TestAnswer
bad_positions zero = []
bad_positions (suc k) =
    bad_positions k ++ record { test = test.Position k (only Bad); value = true } ∷ []

-- each of the first n inputs is FALSE
abbrev pub false_inputs : ℕ → List TestAnswer
false_inputs zero = []
false_inputs (suc k) = false_inputs k ++ record { test = test.Input k; value = false } ∷ []

-- the case of a process that is lost: the first `switches` switches and `inputs` inputs
abbrev pub lost_case : ℕ → ℕ → List TestAnswer
lost_case switches inputs = bad_positions switches ++ false_inputs inputs

-- ---- the values that a case allows

-- two fields of a meter are equal
abbrev pub same_field : MeterField → MeterField → Bool
same_field TotW TotW = true
same_field TotVAr TotVAr = true
same_field Hz Hz = true
same_field PhaseA PhaseA = true
same_field PhaseB PhaseB = true
same_field PhaseC PhaseC = true
same_field a b = false

-- whether a switch may have the position, by a test with this answer
abbrev pub test_allows_position : ℕ → Dbpos → Bool → Test → Bool
test_allows_position k position value (test.Position j positions) =
    not (j == k) || beq (has_position positions position) value
test_allows_position k position value (test.Input j) = true
test_allows_position k position value (test.AtMost j field most) = true

-- whether a switch may have the position, by one test with its answer
abbrev pub allows_position : ℕ → Dbpos → TestAnswer → Bool
allows_position k position l = test_allows_position k position l.value l.test

-- whether a switch may have the position in the case
abbrev pub may_be : List TestAnswer → ℕ → Dbpos → Bool
may_be case k position = list_all (allows_position k position) case

-- whether an input may have the value, by a test with this answer
abbrev pub test_allows_input : ℕ → Bool → Bool → Test → Bool
test_allows_input k wanted value (test.Position j which) = true
test_allows_input k wanted value (test.Input j) = not (j == k) || beq wanted value
test_allows_input k wanted value (test.AtMost j field most) = true

-- whether an input may have the value, by one test with its answer
abbrev pub allows_input : ℕ → Bool → TestAnswer → Bool
allows_input k wanted l = test_allows_input k wanted l.value l.test

-- whether an input may have the value in the case
abbrev pub input_may : List TestAnswer → ℕ → Bool → Bool
input_may case k wanted = list_all (allows_input k wanted) case

-- whether a field of a meter is this field of this meter
abbrev pub is_of_field : ℕ → MeterField → ℕ → MeterField → Bool
is_of_field k field j which = j == k && same_field which field

-- the greater of two numbers
abbrev pub greater_int : ℤ → ℤ → ℤ
greater_int low other = if int_lt low other then other else low

-- the lesser of two numbers
abbrev pub lesser_int : ℤ → ℤ → ℤ
lesser_int high other = if int_lt other high then other else high

-- the least number of a measured value after a test with this answer, if it was at least `low`
abbrev pub low_by : ℕ → MeterField → ℤ → Bool → Test → ℤ
low_by k field low value (test.Position j which) = low
low_by k field low value (test.Input j) = low
low_by k field low value (test.AtMost j which most) =
    if is_of_field k field j which && not value then greater_int low (most +ℤ pos 1) else low

-- the least number of a measured value after one test, if it was at least `low`
abbrev pub low_after : ℕ → MeterField → ℤ → TestAnswer → ℤ
low_after k field low l = low_by k field low l.value l.test

-- the greatest number of a measured value after a test with this answer, if it was at most `high`
abbrev pub high_by : ℕ → MeterField → ℤ → Bool → Test → ℤ
high_by k field high value (test.Position j which) = high
high_by k field high value (test.Input j) = high
high_by k field high value (test.AtMost j which most) =
    if is_of_field k field j which && value then lesser_int high most else high

-- the greatest number of a measured value after one test, if it was at most `high`
abbrev pub high_after : ℕ → MeterField → ℤ → TestAnswer → ℤ
high_after k field high l = high_by k field high l.value l.test

-- the least number that a measured value may have in the case
abbrev pub low_of : List TestAnswer → ℕ → MeterField → ℤ
low_of case k field = fold (low_after k field) (negsuc 2147483647) case

-- the greatest number that a measured value may have in the case
abbrev pub high_of : List TestAnswer → ℕ → MeterField → ℤ
high_of case k field = fold (high_after k field) (pos 2147483647) case

-- The case allows each value of the process.
pub record IsWithin (case : List TestAnswer) (p : Process) : Type 0 where
  pub positions : (k : ℕ) → may_be case k (p.position k) ≡ true
  pub inputs : (k : ℕ) → input_may case k (p.input k) ≡ true
  pub least : (k : ℕ) (field : MeterField) → low_of case k field ≤ℤ p.measure k field
  pub greatest : (k : ℕ) (field : MeterField) → p.measure k field ≤ℤ high_of case k field

-- ---- the example of a case

-- the first position that a switch may have
abbrev pub first_position : Bool → Bool → Bool → Dbpos
first_position i o n = if i then Intermediate else if o then Off else if n then On else Bad

-- the example of a case: each point has the first value that it may have
abbrev pub example_of : List TestAnswer → Process
example_of case = record {
  position = λ k. first_position (may_be case k Intermediate) (may_be case k Off)
      (may_be case k On);
  input = λ k. input_may case k true;
  measure = λ k field. lesser_int (pos 2147483647) (low_of case k field);
}

-- ---- the ranges of points

-- the range of a truth value that may be TRUE and may be FALSE
abbrev pub truth_range : Bool → Bool → Range
truth_range true false = Yes
truth_range true true = Either
truth_range false true = No
truth_range false false = Either

-- the least number of a position that a switch may have
abbrev pub least_position : Bool → Bool → Bool → ℤ
least_position i o n = if i then pos 0 else if o then pos 1 else if n then pos 2 else pos 3

-- the greatest number of a position that a switch may have
abbrev pub greatest_position : Bool → Bool → Bool → ℤ
greatest_position o n b = if b then pos 3 else if n then pos 2 else if o then pos 1 else pos 0

-- whether a switch has the position `which`: one that has the position `at` if it may, and else the
-- first that it may have
abbrev pub has_at : Dbpos → Dbpos → Bool → Dbpos → Bool
has_at which first may at = if may then same_position which at else same_position which first

-- the set of the position `which`, for a switch that may have these positions: each other position
-- counts as the first that it may have
abbrev pub distinguished_positions : Dbpos → Bool → Bool → Bool → Bool → Positions
distinguished_positions which i o n b = record {
  intermediate = has_at which (first_position i o n) i Intermediate;
  off = has_at which (first_position i o n) o Off;
  on = has_at which (first_position i o n) n On;
  bad = has_at which (first_position i o n) b Bad;
}

-- the range of a point of the switch at index k
abbrev pub position_range : ℕ → SwitchPoint → Bool → Bool → Bool → Bool → Range
position_range k Position i o n b = Between (least_position i o n) (greatest_position o n b)
position_range k Open i o n b = among k (distinguished_positions Off i o n b)
position_range k Closed i o n b = among k (distinguished_positions On i o n b)
position_range k EnableOpen i o n b = No
position_range k EnableClose i o n b = No

-- the range of a source in a case
abbrev pub range_of : List TestAnswer → Source → Range
range_of case (source.Switch k point) =
    position_range k point (may_be case k Intermediate) (may_be case k Off) (may_be case k On)
    (may_be case k Bad)
range_of case (source.Input k) = truth_range (input_may case k true) (input_may case k false)
range_of case (source.Meter k field) = Between (low_of case k field) (high_of case k field)
