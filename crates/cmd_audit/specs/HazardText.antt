-- The lines of an audit for a single line diagram.
use Rattle.std.specs.Prelude.{ℕ, List, [], ◌++◌, codes, Option, None, Some, slice_get, flat_map, if◌then◌else◌}
use Rattle.bay_audit.specs.declared.case.TestAnswer.{TestAnswer}
use Rattle.bay_audit_hazards.specs.declared.answer.HazardAnswer.{HazardAnswer}
use Rattle.bay_audit_hazards.specs.declared.answer.HazardAnswer.TheVariants.{Holds, Broken, Open, Undecided}
use Rattle.bay_config.specs.declared.bay.Bay.{Bay}
use Rattle.bay_diagram.specs.declared.shown.ShownHazard.{ShownHazard}
use Rattle.bay_diagram_file.specs.Words.{hazard_text}
use Rattle.bay_diagram_file.specs.declared.diagram.Diagram.{Diagram}
use Rattle.cmd_audit.specs.Judged.{is_safe}
use Rattle.cmd_audit.specs.Text.{case_text, holds_text, id_of, switch_operation_text}
use Rattle.cmd_audit.specs.declared.judged.JudgedRelease.{JudgedRelease}

-- a hazard in words, if one is shown
abbrev pub shown_text : Diagram → Option ShownHazard → List ℕ
shown_text d None = []
shown_text d (Some shown) = codes ": " ++ hazard_text d shown

-- a word, a case in which the operation is a hazard, and this hazard
abbrev pub hazard_case_text : Bay → Diagram → List ℕ → List TestAnswer → Option ShownHazard
    → List ℕ
hazard_case_text bay d word case shown = word ++ (case_text bay case ++ shown_text d shown)

-- the answer on an operation: that it holds, or a case with a hazard, or that there are too many
-- cases
abbrev pub hazard_answer_text : Bay → Diagram → HazardAnswer → Option ShownHazard → List ℕ
hazard_answer_text bay d (Holds cases) shown = holds_text cases
hazard_answer_text bay d (Broken case) shown = hazard_case_text bay d (codes " broken") case shown
hazard_answer_text bay d (Open case) shown = hazard_case_text bay d (codes " open") case shown
hazard_answer_text bay d Undecided shown = codes " many"

-- the beginning of a line: the switch of a release and its operation
abbrev pub hazard_start_text : Bay → JudgedRelease → List ℕ
hazard_start_text bay r =
    switch_operation_text (codes "diagram ") (id_of (slice_get bay.switches r.switch)) r.operation

-- the line of a release
abbrev pub hazard_line : Bay → Diagram → JudgedRelease → List ℕ
hazard_line bay d r =
    hazard_start_text bay r ++ (hazard_answer_text bay d r.answer r.shown ++ codes "\n")

-- the lines of all releases
abbrev pub hazard_lines : Bay → Diagram → List JudgedRelease → List ℕ
hazard_lines bay d releases = flat_map (hazard_line bay d) releases

-- the line of a release that does not hold; none for one that holds
abbrev pub unsafe_line : Bay → Diagram → JudgedRelease → List ℕ
unsafe_line bay d r = if is_safe r then [] else hazard_line bay d r

-- the lines of the releases that do not hold
abbrev pub unsafe_lines : Bay → Diagram → List JudgedRelease → List ℕ
unsafe_lines bay d releases = flat_map (unsafe_line bay d) releases
