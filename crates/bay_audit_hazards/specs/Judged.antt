-- Which answers to a release are right.
use Rattle.std.specs.Prelude.{ℕ, ◌≡◌, Bool, true, false, List, Option, None, Some, length, nat_lt, if◌then◌else◌}
use Rattle.bay_base.specs.declared.switch.Operation.{Operation}
use Rattle.bay_audit_rules.specs.Process.{Process}
use Rattle.bay_audit.specs.Cases.{input_may, is_in, may_be}
use Rattle.bay_audit.specs.Process.{IsProcess}
use Rattle.bay_audit.specs.Rules.{BoundProgram, ReleaseIs, HasProcess}
use Rattle.bay_audit.specs.declared.case.TestAnswer.{TestAnswer}
use Rattle.bay_config.specs.declared.bay.Bay.{Bay}
use Rattle.bay_diagram.specs.declared.network.Network.{Network}
use Rattle.bay_diagram.specs.Hazards.{is_hazard}
use Rattle.bay_diagram.specs.Reading.{Allowed, best_of, reading_of}
use Rattle.bay_diagram.specs.Shown.{is_shown}
use Rattle.bay_diagram.specs.declared.shown.ShownHazard.{ShownHazard}
use Rattle.bay_audit_hazards.specs.declared.answer.HazardAnswer.{HazardAnswer}
use Rattle.bay_audit_hazards.specs.declared.answer.HazardAnswer.TheVariants.{Holds, Broken, Open, Undecided}

-- the operation is a hazard, by what the process reports
abbrev pub is_hazard_of : Network → ℕ → Operation → Process → Bool
is_hazard_of net k operation p = is_hazard net (reading_of p) k operation

-- While the operation is a hazard the switch is not released, in any state that the program can
-- reach.
abbrev pub IsHarmless : BoundProgram → Network → ℕ → Operation → Type 0
IsHarmless g net k operation =
    (p : Process) → IsProcess p → is_hazard_of net k operation p ≡ true
    → ReleaseIs false g k operation p

-- The case has a process, and the operation is a hazard in each process of the case.
pub record IsHazard (net : Network) (k : ℕ) (operation : Operation) (case : List TestAnswer)
    : Type 0 where
  pub some : HasProcess case
  pub each : (p : Process) → IsProcess p → is_in case p ≡ true
      → is_hazard_of net k operation p ≡ true

-- In each process of the case the switch is released, in each state that the program can reach.
abbrev pub IsReleased : BoundProgram → ℕ → Operation → List TestAnswer → Type 0
IsReleased g k operation case =
    (p : Process) → IsProcess p → is_in case p ≡ true → ReleaseIs true g k operation p

-- The answer is right.
abbrev pub IsHazardAnswer : BoundProgram → Network → ℕ → Operation → HazardAnswer → Type 0
IsHazardAnswer g net k operation (Holds cases) = IsHarmless g net k operation
IsHazardAnswer g net k operation (Broken case) =
    IsHazard net k operation case × IsReleased g k operation case
IsHazardAnswer g net k operation (Open case) = IsHazard net k operation case
IsHazardAnswer g net k operation Undecided = Unit {0}

-- ---- what is shown of a case

-- the positions and values that a case allows, of the switches and inputs of the bay
abbrev pub allowed_in : Bay → List TestAnswer → Allowed
allowed_in bay case = record {
  position = λ k position. if nat_lt k (length bay.switches) then may_be case k position else true;
  input = λ k value. if nat_lt k (length bay.inputs) then input_may case k value else true;
}

-- the operation is a hazard in the best that can be known in the case
abbrev pub is_surely_hazard : Bay → Network → ℕ → Operation → List TestAnswer → Bool
is_surely_hazard bay net k operation case =
    is_hazard net (best_of (allowed_in bay case)) k operation

-- The operation is a hazard in the best that can be known in the case of the answer, if it has one.
abbrev pub IsSureAnswer : Bay → Network → ℕ → Operation → HazardAnswer → Type 0
IsSureAnswer bay net k operation (Holds cases) = Unit {0}
IsSureAnswer bay net k operation (Broken case) = is_surely_hazard bay net k operation case ≡ true
IsSureAnswer bay net k operation (Open case) = is_surely_hazard bay net k operation case ≡ true
IsSureAnswer bay net k operation Undecided = Unit {0}

-- What is shown is a hazard of the operation in each process of the case.
abbrev pub IsShownIn : Network → ℕ → Operation → List TestAnswer → ShownHazard → Type 0
IsShownIn net k operation case shown =
    (p : Process) → is_in case p ≡ true → is_shown net (reading_of p) k operation shown ≡ true

-- What is shown is a hazard of the operation in each process of the case. Nothing is shown only if
-- the operation is no hazard in the best that can be known in the case.
abbrev pub IsExplained : Bay → Network → ℕ → Operation → List TestAnswer → Option ShownHazard
    → Type 0
IsExplained bay net k operation case None = is_surely_hazard bay net k operation case ≡ false
IsExplained bay net k operation case (Some shown) = IsShownIn net k operation case shown
