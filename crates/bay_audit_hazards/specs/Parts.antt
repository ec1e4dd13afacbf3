-- What is found of a case, and of several.
use Rattle.std.specs.Prelude.{ℕ, ◌≡◌, ◌<◌, Bool, true, false, List, slice_get, nat_lt, if◌then◌else◌}
use Rattle.bay_base.specs.declared.position.Dbpos.{Dbpos}
use Rattle.bay_base.specs.declared.switch.Operation.{Operation}
use Rattle.bay_audit_rules.specs.Process.{Process}
use Rattle.bay_audit.specs.Cases.{input_may, is_in, may_be}
use Rattle.bay_audit.specs.Process.{IsProcess}
use Rattle.bay_audit.specs.Rules.{AreRightInCases, BoundProgram, ReleaseIs, case_count, reported_count}
use Rattle.bay_audit.specs.declared.answer.ReportedCase.{ReportedCase}
use Rattle.bay_audit.specs.declared.case.TestAnswer.{TestAnswer}
use Rattle.bay_config.specs.declared.bay.Bay.{Bay}
use Rattle.bay_diagram.specs.declared.network.Network.{Network}
use Rattle.bay_diagram.specs.declared.reading.Bound.{Bound}
use Rattle.bay_diagram.specs.declared.reading.InputSet.{InputSet}
use Rattle.bay_diagram.specs.declared.reading.Known.{Known}
use Rattle.bay_diagram.specs.declared.reading.PositionSet.{PositionSet}
use Rattle.bay_diagram.specs.Reading.{allowed_by, has_position, has_value}
use Rattle.bay_audit_hazards.specs.Judged.{IsHazard, allowed_in, is_hazard_of, is_surely_hazard}
use Rattle.bay_audit_hazards.specs.declared.answer.Evaluation.{Evaluation}
use Rattle.bay_audit_hazards.specs.declared.answer.Evaluation.TheVariants as evaluation
use Rattle.bay_audit_hazards.specs.declared.answer.Sweep.{Sweep}
use Rattle.bay_audit_hazards.specs.declared.answer.Sweep.TheVariants as sweep

-- ---- what is known in a case

-- The sets of the first n switches have the positions that the case allows.
abbrev pub AllowPositions : List TestAnswer → ℕ → List PositionSet → Type 0
AllowPositions case n sets =
    (k : ℕ) (position : Dbpos) → has_position (slice_get sets k) position
    ≡ (if nat_lt k n then may_be case k position else true)

-- The sets of the first n inputs have the values that the case allows.
abbrev pub AllowInputs : List TestAnswer → ℕ → List InputSet → Type 0
AllowInputs case n sets =
    (k : ℕ) (value : Bool) → has_value (slice_get sets k) value
    ≡ (if nat_lt k n then input_may case k value else true)

-- What is known is what the case allows.
pub record IsKnown (bay : Bay) (bound : Bound) (case : List TestAnswer) (known : Known)
    : Type 0 where
  pub bounds : known.bound ≡ bound
  pub allows : allowed_by known ≡ allowed_in bay case

-- ---- a case

-- The evaluation of a case is right.
abbrev pub IsEvaluated : Network → ℕ → Operation → List TestAnswer → Evaluation → Type 0
IsEvaluated net k operation case evaluation.Empty =
    (p : Process) → IsProcess p → is_in case p ≡ false
IsEvaluated net k operation case evaluation.Harmless =
    (p : Process) → IsProcess p → is_in case p ≡ true → is_hazard_of net k operation p ≡ false
IsEvaluated net k operation case evaluation.Hazard = IsHazard net k operation case
IsEvaluated net k operation case (evaluation.Split test) = Unit {0}
IsEvaluated net k operation case evaluation.Unclear = Unit {0}

-- If the evaluation is a hazard, it is one in the best that can be known in the case.
abbrev pub IsSure : Bay → Network → ℕ → Operation → List TestAnswer → Evaluation → Type 0
IsSure bay net k operation case evaluation.Empty = Unit {0}
IsSure bay net k operation case evaluation.Harmless = Unit {0}
IsSure bay net k operation case evaluation.Hazard =
    is_surely_hazard bay net k operation case ≡ true
IsSure bay net k operation case (evaluation.Split test) = Unit {0}
IsSure bay net k operation case evaluation.Unclear = Unit {0}

-- ---- several cases

-- The processes of the case are processes of these cases.
abbrev pub IsPart : List (List TestAnswer) → List TestAnswer → Type 0
IsPart cases part =
    (p : Process) → IsProcess p → is_in part p ≡ true → 0 < case_count cases p

-- What was found of several cases is right.
abbrev pub IsSweep : Network → ℕ → Operation → List (List TestAnswer) → Sweep → Type 0
IsSweep net k operation cases (sweep.Harmless n) =
    (p : Process) → IsProcess p → is_hazard_of net k operation p ≡ true → case_count cases p ≡ 0
IsSweep net k operation cases (sweep.Hazard case) =
    IsHazard net k operation case × IsPart cases case
IsSweep net k operation cases sweep.Undecided = Unit {0}

-- If a hazard was found, it is one in the best that can be known in its case.
abbrev pub IsSureSweep : Bay → Network → ℕ → Operation → Sweep → Type 0
IsSureSweep bay net k operation (sweep.Harmless n) = Unit {0}
IsSureSweep bay net k operation (sweep.Hazard case) =
    is_surely_hazard bay net k operation case ≡ true
IsSureSweep bay net k operation sweep.Undecided = Unit {0}

-- ---- the cases of a release

-- In the processes of the first list of cases the switch is released, and in those that are in
-- neither list it is not.
pub record AreSplitBy (g : BoundProgram) (k : ℕ) (operation : Operation)
    (cases : List ReportedCase) (released undecided : List (List TestAnswer)) : Type 0
  where
    pub given : (p : Process) → IsProcess p → 0 < case_count released p
        → ReleaseIs true g k operation p
    pub refused : (p : Process) → IsProcess p → 0 < reported_count cases p
        → case_count released p ≡ 0 → case_count undecided p ≡ 0 → ReleaseIs false g k operation p

-- The lists part the cases so for each release of which the cases are right.
abbrev pub AreSplit : List ReportedCase → List (List TestAnswer) → List (List TestAnswer) → Type 0
AreSplit cases released undecided =
    (g : BoundProgram) (k : ℕ) (operation : Operation) → AreRightInCases g k operation cases
    → AreSplitBy g k operation cases released undecided
