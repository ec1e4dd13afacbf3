-- The diagram of a text, for a bay, or the first refusal of the text.
use Rattle.std.specs.Prelude.{ℕ, Bool, false, ◌&&◌, nat_lt, List, [], ◌∷◌, length, map, codes, Option, None, Some, Result, Err, if◌then◌else◌}
use Rattle.std.specs.Str.{is_utf8}
use Rattle.toml.specs.Data.{Data, Items, Members, as_array, as_table, get_member}
use Rattle.bay_base.specs.Exact.{unless_refused}
use Rattle.bay_config.specs.Bay.{document_of}
use Rattle.bay_config.specs.Key.{has_unknown}
use Rattle.bay_config.specs.declared.bay.Bay.{Bay}
use Rattle.bay_diagram.specs.declared.network.Checks.{Checks}
use Rattle.bay_diagram.specs.declared.network.Network.{Network}
use Rattle.bay_diagram_file.specs.Checks.{name_of, first_refusal, tables_refusal}
use Rattle.bay_diagram_file.specs.Parts.{network_of_tables}
use Rattle.bay_diagram_file.specs.Row.{is_truth, list_of, may_be, node_row_of_value, switch_row_of_value, truth_in, values_in}
use Rattle.bay_diagram_file.specs.declared.diagram.Diagram.{Diagram}
use Rattle.bay_diagram_file.specs.declared.fault.DiagramFault.{DiagramFault}
use Rattle.bay_diagram_file.specs.declared.fault.FaultKind.{FaultKind}
use Rattle.bay_diagram_file.specs.declared.fault.FaultKind.TheVariants.{BadToml, UnknownKey, MissingKey, BadValue, TooMany}
use Rattle.bay_diagram_file.specs.declared.fault.Place.TheVariants.{File}
use Rattle.bay_diagram_file.specs.declared.row.NodeRow.{NodeRow}
use Rattle.bay_diagram_file.specs.declared.row.SwitchRow.{SwitchRow}

-- ---- the sections

-- a fault of the file as a whole
abbrev pub file_fault : FaultKind → DiagramFault
file_fault kind = record { kind = kind; place = File }

-- the file has no other section
abbrev pub keys_refusal : Members → Option DiagramFault
keys_refusal file =
    if has_unknown (codes "node" ∷ codes "between" ∷ codes "check" ∷ []) file
    then Some (file_fault UnknownKey)
    else None

-- a section is a list of 1 to 64 values
abbrev pub count_refusal : ℕ → Option DiagramFault
count_refusal n =
    if nat_lt n 1 then Some (file_fault MissingKey)
    else if nat_lt 64 n then Some (file_fault TooMany) else None

-- the refusal of a section that must be a list; `None` is a section that is not a list
abbrev pub list_refusal : Option Items → Option DiagramFault
list_refusal None = Some (file_fault BadValue)
list_refusal (Some items) = count_refusal (length (list_of items))

-- the refusal of a section, which may not be missing
abbrev pub section_refusal : Option Data → Option DiagramFault
section_refusal None = Some (file_fault MissingKey)
section_refusal (Some d) = list_refusal (as_array d)

-- the value at each key of the table `check` is TRUE or FALSE
abbrev pub has_check_values : Members → Bool
has_check_values table =
    may_be is_truth (get_member (codes "live_parts") table)
    && may_be is_truth (get_member (codes "fed_earths") table)

-- the refusal of the table `check`
abbrev pub check_table_refusal : Members → Option DiagramFault
check_table_refusal table =
    if has_unknown (codes "live_parts" ∷ codes "fed_earths" ∷ []) table
    then Some (file_fault UnknownKey)
    else if has_check_values table then None
    else Some (file_fault BadValue)

-- the refusal of the value `check`, which must be a table
abbrev pub check_value_refusal : Option Members → Option DiagramFault
check_value_refusal None = Some (file_fault BadValue)
check_value_refusal (Some table) = check_table_refusal table

-- the refusal of the section `check`, which may be missing
abbrev pub check_refusal : Option Data → Option DiagramFault
check_refusal None = None
check_refusal (Some d) = check_value_refusal (as_table d)

-- the first refusal of the sections of a file
abbrev pub sections_refusal : Members → Option DiagramFault
sections_refusal file =
    first_refusal (keys_refusal file)
    (first_refusal (section_refusal (get_member (codes "node") file))
    (first_refusal (section_refusal (get_member (codes "between") file))
    (check_refusal (get_member (codes "check") file))))

-- ---- the diagram

-- no hazard that counts only if a diagram selects it
abbrev pub no_checks : Checks
no_checks = record { live_parts = false; fed_earths = false }

-- the hazards that the table `check` selects
abbrev pub checks_of_table : Option Members → Checks
checks_of_table None = no_checks
checks_of_table (Some table) = record {
  live_parts = truth_in table (codes "live_parts");
  fed_earths = truth_in table (codes "fed_earths");
}

-- the hazards that the section `check` selects
abbrev pub checks_of : Option Data → Checks
checks_of None = no_checks
checks_of (Some d) = checks_of_table (as_table d)

-- the hazards that a file selects
abbrev pub checks_in : Members → Checks
checks_in file = checks_of (get_member (codes "check") file)

-- the tables of the section `node`
abbrev pub node_rows : Members → List NodeRow
node_rows file = map node_row_of_value (values_in file (codes "node"))

-- the tables of the section `between`
abbrev pub switch_rows : Members → List SwitchRow
switch_rows file = map switch_row_of_value (values_in file (codes "between"))

-- the first refusal of a file: its sections, then their tables
abbrev pub file_refusal : Bay → Members → Option DiagramFault
file_refusal bay file =
    first_refusal (sections_refusal file) (tables_refusal bay (node_rows file) (switch_rows file))

-- the diagram of a file, or its first refusal
abbrev pub network_of_file : Bay → Members → Result Network DiagramFault
network_of_file bay file =
    unless_refused (file_refusal bay file)
    (network_of_tables bay (checks_in file) (node_rows file) (switch_rows file))

-- a text that is not TOML is refused first
abbrev pub network_of_document : Bay → Option Members → Result Network DiagramFault
network_of_document bay None = Err (file_fault BadToml)
network_of_document bay (Some file) = network_of_file bay file

-- the diagram of a text, or its first refusal
abbrev pub diagram_of : Bay → List ℕ → Result Network DiagramFault
diagram_of bay text = network_of_document bay (document_of text)

-- ---- with names

-- the diagram of the tables, with the names of its nodes and switches
abbrev pub named_of : Bay → Checks → List NodeRow → List SwitchRow → Diagram
named_of bay checks nodes switches = record {
  network = network_of_tables bay checks nodes switches;
  nodes = map (λ n. n.name) nodes;
  switches = map name_of switches;
}

-- the diagram of a file with its names, or the first refusal
abbrev pub named_in : Bay → Members → Result Diagram DiagramFault
named_in bay file =
    unless_refused (file_refusal bay file)
    (named_of bay (checks_in file) (node_rows file) (switch_rows file))

-- a text that is not TOML is refused first
abbrev pub named_in_document : Bay → Option Members → Result Diagram DiagramFault
named_in_document bay None = Err (file_fault BadToml)
named_in_document bay (Some file) = named_in bay file

-- the diagram of a text with its names, or the first refusal: that of `diagram_of`
abbrev pub named_diagram_of : Bay → List ℕ → Result Diagram DiagramFault
named_diagram_of bay text = named_in_document bay (document_of text)

-- the diagram of the octets of a file, which are refused first if they are no text
abbrev pub diagram_of_file : Bay → List ℕ → Result Diagram DiagramFault
diagram_of_file bay octets =
    if is_utf8 octets then named_diagram_of bay octets else Err (file_fault BadToml)
