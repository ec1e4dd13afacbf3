-- The releases of a bay's switches, judged by the hazards in its single line diagram.
use Rattle.std.specs.Prelude.{ℕ, ◌≡◌, Bool, true, false, List, [], ◌∷◌, Option, None, Some}
use Rattle.bay_audit.specs.Rules.{BoundProgram}
use Rattle.bay_audit.specs.declared.case.TestAnswer.{TestAnswer}
use Rattle.bay_audit_hazards.specs.Judged.{IsExplained, IsHazardAnswer, IsShownIn}
use Rattle.bay_audit_hazards.specs.declared.answer.HazardAnswer.{HazardAnswer}
use Rattle.bay_audit_hazards.specs.declared.answer.HazardAnswer.TheVariants.{Holds, Broken, Open, Undecided}
use Rattle.bay_base.specs.declared.switch.Operation.{Operation}
use Rattle.bay_config.specs.declared.bay.Bay.{Bay}
use Rattle.bay_diagram.specs.declared.network.Network.{Network}
use Rattle.bay_diagram.specs.declared.shown.ShownHazard.{ShownHazard}
use Rattle.cmd_audit.specs.declared.judged.JudgedRelease.{JudgedRelease}

-- the program never releases the switch while the operation is a hazard
abbrev pub is_harmless : HazardAnswer → Bool
is_harmless (Holds cases) = true
is_harmless (Broken case) = false
is_harmless (Open case) = false
is_harmless Undecided = false

-- A hazard is shown, and it is one of the operation in each process of the case.
abbrev pub IsCaseShown : Network → ℕ → Operation → List TestAnswer → Option ShownHazard → Type 0
IsCaseShown net k operation case None = ⊥
IsCaseShown net k operation case (Some shown) = IsShownIn net k operation case shown

-- Of an answer with a case a hazard of the operation in this case is shown; of others nothing.
abbrev pub IsShown : Network → ℕ → Operation → HazardAnswer → Option ShownHazard → Type 0
IsShown net k operation (Holds cases) shown = shown ≡ None
IsShown net k operation (Broken case) shown = IsCaseShown net k operation case shown
IsShown net k operation (Open case) shown = IsCaseShown net k operation case shown
IsShown net k operation Undecided shown = shown ≡ None

-- What is shown of an answer explains its case, if it has one.
abbrev pub IsExplainedAnswer : Bay → Network → ℕ → Operation → HazardAnswer → Option ShownHazard
    → Type 0
IsExplainedAnswer bay net k operation (Holds cases) shown = shown ≡ None
IsExplainedAnswer bay net k operation (Broken case) shown =
    IsExplained bay net k operation case shown
IsExplainedAnswer bay net k operation (Open case) shown =
    IsExplained bay net k operation case shown
IsExplainedAnswer bay net k operation Undecided shown = shown ≡ None

-- The answer to the release is right, and so is what is shown of it.
pub record IsJudgedRelease (g : BoundProgram) (net : Network) (r : JudgedRelease) : Type 0 where
  pub right : IsHazardAnswer g net r.switch r.operation r.answer
  pub shown : IsShown net r.switch r.operation r.answer r.shown

-- Each of the releases is judged so.
abbrev pub AreJudged : BoundProgram → Network → List JudgedRelease → Type 0
AreJudged g net [] = Unit {0}
AreJudged g net (r ∷ releases) = IsJudgedRelease g net r × AreJudged g net releases

-- the switch of a release and its direction
abbrev pub judged_way : JudgedRelease → ℕ × Operation
judged_way r = (r.switch, r.operation)

-- the release holds
abbrev pub is_safe : JudgedRelease → Bool
is_safe r = is_harmless r.answer
