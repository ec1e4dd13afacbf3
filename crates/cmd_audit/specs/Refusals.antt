-- The line that is printed for a text of rules or a diagram file that is refused, and what is
-- logged.
use Rattle.std.specs.Prelude.{ℕ, ◌+◌, nat_lt, List, [], ◌++◌, codes, Option, None, Some, option_and_then, if◌then◌else◌}
use Rattle.std.specs.Fmt.{decimal}
use Rattle.bay_diagram_file.specs.Code.{code_of, words_of}
use Rattle.bay_diagram_file.specs.declared.fault.DiagramFault.{DiagramFault}
use Rattle.bay_diagram_file.specs.declared.fault.Place.{Place}
use Rattle.bay_diagram_file.specs.declared.fault.Place.TheVariants as places
use Rattle.cmd_audit.specs.Text.{refusal_text, refused_log}
use Rattle.cmd_audit.specs.declared.refusal.Refusal.{Refusal}
use Rattle.cmd_audit.specs.declared.refusal.Refusal.TheVariants.{Rules, DiagramFile}

-- ---- a diagram file

-- the number of a table by its index, from 1 on; the greatest number of 64 bits is its own
abbrev pub number_of : ℕ → ℕ
number_of k = if nat_lt k 18446744073709551615 then k + 1 else k

-- the table that has the fault, by its section and number, or the switch of the bay file; none for
-- the file as a whole
abbrev pub table_of : Place → Option (List ℕ × ℕ)
table_of places.File = None
table_of (places.Node k) = Some (codes " node ", number_of k)
table_of (places.Between k) = Some (codes " between ", number_of k)
table_of (places.Switch k) = Some (codes " switch ", number_of k)

-- the table with the fault, if it is one
abbrev pub table_text : Option (List ℕ × ℕ) → List ℕ
table_text None = []
table_text (Some table) = table.0 ++ decimal table.1

-- the line of a fault; out of memory has none
abbrev pub numbered_diagram : Option ℕ → Option (List ℕ × ℕ) → List ℕ
numbered_diagram None table = []
numbered_diagram (Some code) table =
    codes "diagram refused " ++ (decimal code ++ (table_text table ++ codes "\n"))

-- the line of a fault of a diagram
abbrev pub diagram_refusal : DiagramFault → List ℕ
diagram_refusal fault = numbered_diagram (code_of fault.kind) (table_of fault.place)

-- the log line of a fault; out of memory has none
abbrev pub logged_diagram : Option ℕ → Option (List ℕ × ℕ) → List ℕ → Option (List ℕ)
logged_diagram None table words = None
logged_diagram (Some code) table words =
    Some (codes "bayctl: diagram refused " ++ (decimal code
    ++ (table_text table ++ (codes ": " ++ (words ++ codes "\n")))))

-- the log line of a fault of a diagram
abbrev pub diagram_log : DiagramFault → Option (List ℕ)
diagram_log fault = logged_diagram (code_of fault.kind) (table_of fault.place) (words_of fault.kind)

-- ---- either of the two

-- the line of rules or of a diagram file that are refused
abbrev pub refusal_line : Refusal → List ℕ
refusal_line (Rules fault) = refusal_text fault
refusal_line (DiagramFile fault) = diagram_refusal fault

-- the log line of rules or of a diagram file that are refused
abbrev pub refusal_log : Refusal → Option (List ℕ)
refusal_log (Rules fault) = refused_log fault
refusal_log (DiagramFile fault) = diagram_log fault

-- the log line, if one of the two is refused
abbrev pub log_in : Option Refusal → Option (List ℕ)
log_in refused = option_and_then refusal_log refused
