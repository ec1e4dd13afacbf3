-- Whether each release of a loaded program is harmless in a single line diagram, and what is
-- printed and logged then.
use Rattle.std.specs.Prelude.{◌≡◌, ◌⊎◌, ℕ, true, false, List, ◌++◌, codes, length, map, Option, None, Result, Ok, Err}
use Rattle.std.specs.Fmt.{decimal}
use Rattle.std.specs.List.{list_all}
use Rattle.bay_audit.specs.Rules.{program_of, directions}
use Rattle.bay_config.specs.declared.bay.Bay.{Bay}
use Rattle.bay_diagram_file.specs.Diagram.{diagram_of_file}
use Rattle.bay_diagram_file.specs.declared.diagram.Diagram.{Diagram}
use Rattle.bay_diagram_file.specs.declared.fault.DiagramFault.{DiagramFault}
use Rattle.bay_load.specs.Loads.{LoadData}
use Rattle.bay_report.specs.LogLines.{IsLoggedOutput}
use Rattle.cmd_audit.specs.HazardText.{unsafe_lines}
use Rattle.cmd_audit.specs.Judged.{AreJudged, is_safe, judged_way}
use Rattle.cmd_audit.specs.Refusals.{diagram_log, diagram_refusal}
use Rattle.cmd_audit.specs.declared.judged.JudgedRelease.{JudgedRelease}
use Rattle.cmd_audit.specs.declared.judging_diagram.DiagramVerdict.{DiagramVerdict}
use Rattle.cmd_audit.specs.declared.judging_diagram.DiagramVerdict.TheVariants.{Hold, Unproved, Refused, OutOfMemory}

-- the verdict on a diagram with these releases: their number, if each of them holds; the lines of
-- those that do not hold, if one does not
abbrev pub IsVerdictOf : Bay → Diagram → List JudgedRelease → DiagramVerdict → Type 0
IsVerdictOf bay d releases (Hold count) =
    (list_all is_safe releases ≡ true) × (count ≡ length releases)
IsVerdictOf bay d releases (Unproved text) =
    (list_all is_safe releases ≡ false) × (text.items ≡ unsafe_lines bay d releases)
IsVerdictOf bay d releases (Refused fault) = ⊥
IsVerdictOf bay d releases OutOfMemory = ⊥

-- The release of each switch of the bay in each direction is judged right, and the verdict is that
-- of these releases.
pub record JudgesDiagram (loaded : LoadData) (d : Diagram) (verdict : DiagramVerdict) : Type 0
  where
    pub releases : List JudgedRelease
    pub right : AreJudged (program_of loaded.bay loaded.image) d.network releases
    pub all : map judged_way releases ≡ directions (length loaded.bay.switches)
    pub judged : IsVerdictOf loaded.bay d releases verdict

-- the verdict on the diagram of a text, or on a text that has a fault
abbrev pub JudgesDiagramRead : LoadData → Result Diagram DiagramFault → DiagramVerdict → Type 0
JudgesDiagramRead loaded (Ok d) verdict = JudgesDiagram loaded d verdict
JudgesDiagramRead loaded (Err fault) verdict = verdict ≡ Refused fault

-- the verdict on the text of a diagram file
abbrev pub JudgesDiagramText : LoadData → List ℕ → DiagramVerdict → Type 0
JudgesDiagramText loaded text verdict =
    JudgesDiagramRead loaded (diagram_of_file loaded.bay text) verdict

-- the verdict on the text of a diagram file, unless memory ran out
abbrev pub IsDiagramVerdictOn : LoadData → List ℕ → DiagramVerdict → Type 0
IsDiagramVerdictOn loaded text verdict =
    (verdict ≡ OutOfMemory) ⊎ JudgesDiagramText loaded text verdict

-- what is printed of a verdict, with which status, and what is logged
abbrev pub DiagramVerdictReport : DiagramVerdict → Option (List ℕ) → List ℕ → ℕ → Type 0
DiagramVerdictReport (Hold count) =
    IsLoggedOutput None (codes "diagram " ++ (decimal count ++ codes "\n")) 0
DiagramVerdictReport (Unproved text) = IsLoggedOutput None text.items 4
DiagramVerdictReport (Refused fault) = IsLoggedOutput (diagram_log fault) (diagram_refusal fault) 1
DiagramVerdictReport OutOfMemory = IsLoggedOutput None (codes "fault memory\n") 3
