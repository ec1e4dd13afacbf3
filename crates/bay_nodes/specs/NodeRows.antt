-- The rows of the logical nodes as the tables of the code hold them: the initial value of a line,
-- and the groups of rows that the code appends one after the other.
use Rattle.std.specs.Prelude.{ℕ, pos, false, List, [], ◌∷◌, ◌++◌, map, codes, Option, None, Some}
use Rattle.std.specs.Borrow.{Bor}
use Rattle.std.specs.List.{flat_map, enumerate_from}
use Rattle.bay_tree.specs.declared.row.Row.{Row}
use Rattle.bay_tree.specs.declared.leaf.Leaf.{Leaf}
use Rattle.bay_tree.specs.declared.leaf.Leaf.TheVariants as leaf
use Rattle.bay_base.specs.declared.position.Dbpos.TheVariants as position
use Rattle.bay_tree.specs.declared.leaf.Quality.TheVariants as validity
use Rattle.bay_base.specs.declared.switch.Control.{Control}
use Rattle.bay_nodes.specs.declared.nameplate.Nameplate.{Nameplate}
use Rattle.bay_nodes.specs.declared.subject.Subject.{Subject}
use Rattle.bay_nodes.specs.declared.initial.InitialValue.{InitialValue}
use Rattle.bay_nodes.specs.declared.initial.InitialValue.TheVariants.{Structure, False, Intermediate, Good, Invalid, Int8, Int32, Unsigned8, Float, Octets, Reference, Moment, Vendor, Revision, NameSpace, Description, Local, LocalQuality, SwitchType, ControlModel, SelectTimeout, Multiplier}
use Rattle.bay_nodes.specs.Node.{node_name, row, rows_of_parts, parts_of, value, stamp, command_parts, key_quality}
use Rattle.bay_nodes.specs.Subjects as subject

-- ---- own: the same rows line by line

-- the initial value of a row, with the texts of the nameplate and the values of the subject
abbrev pub initial_leaf : Nameplate → Subject → InitialValue → Option Leaf
initial_leaf n s Structure = None
initial_leaf n s False = Some (leaf.Truth false)
initial_leaf n s Intermediate = Some (leaf.Dbpos position.Intermediate)
initial_leaf n s Good = Some (leaf.Quality validity.Good)
initial_leaf n s Invalid = Some (leaf.Quality validity.Invalid)
initial_leaf n s (Int8 i) = Some (leaf.Int8 i)
initial_leaf n s Int32 = Some (leaf.Int32 (pos 0))
initial_leaf n s Unsigned8 = Some (leaf.Unsigned8 0)
initial_leaf n s Float = Some (leaf.Float (pos 0))
initial_leaf n s Octets = Some (leaf.Octets [])
initial_leaf n s Reference = Some (leaf.Reference [])
initial_leaf n s Moment = Some (leaf.Utc 0)
initial_leaf n s Vendor = Some (leaf.Text n.vendor)
initial_leaf n s Revision = Some (leaf.Text n.revision)
initial_leaf n s NameSpace = Some (leaf.Text (codes "IEC 61850-7-4:2007B"))
initial_leaf n s Description = Some (leaf.Text (subject.description n s))
initial_leaf n s Local = Some (leaf.Truth (subject.is_keyed s))
initial_leaf n s LocalQuality = Some (leaf.Quality (key_quality (subject.is_keyed s)))
initial_leaf n s SwitchType = Some (leaf.Int8 (subject.switch_type s))
initial_leaf n s ControlModel = Some (leaf.Int8 (subject.control_model s))
initial_leaf n s SelectTimeout = Some (leaf.Unsigned32 (subject.select_timeout s))
initial_leaf n s Multiplier = Some (leaf.Int8 (subject.multiplier s))

-- the row of a line, within its node
abbrev pub line_row : Nameplate → Subject → Bor (List ℕ) × InitialValue → Row
line_row n s line = row line.0.now (initial_leaf n s line.1)

-- a row of a node, from its path within the node
abbrev pub row_of_node : List ℕ → Row → Row
row_of_node node r = row (node ++ r.name) r.leaf

-- the rows of a node, from its table
abbrev pub table_rows : Nameplate → Subject → List ℕ → List (Bor (List ℕ) × InitialValue) → List Row
table_rows n s node table = map (row_of_node node) (map (line_row n s) table)

-- the two rows above the control rows (IEC 61850-7-2, CO)
abbrev pub group_rows : List Row
group_rows = row (codes "$CO") None ∷ row (codes "$CO$Pos") None ∷ []

-- the row that selects a switch when a client reads it (IEC 61850-8-1, SBO)
abbrev pub select_row : List Row
select_row = row (codes "$CO$Pos$SBO") (Some (leaf.Reference [])) ∷ []

-- the control rows: those that a client writes, and the one that it reads to select (IEC 61850-8-1,
-- SBO, SBOw, Oper, Cancel)
abbrev pub command_rows : Control → List Row
command_rows control = rows_of_parts [] (parts_of (command_parts control))

-- the rows of an input in the group ST, by their paths below its data object (IEC 61850-7-4, Ind)
abbrev pub input_rows : List Row
input_rows =
    row [] None
    ∷ rows_of_parts [] (parts_of
    (value (codes "stVal") (leaf.Truth false) ∷ stamp validity.Invalid))

-- the rows of an input in the group DC, by their paths below its data object (IEC 61850-7-3, d)
abbrev pub input_description_rows : List ℕ → List Row
input_description_rows name =
    row [] None ∷ rows_of_parts [] (parts_of (value (codes "d") (leaf.Text name) ∷ []))

-- the rows of objects with these names, numbered from `n`; the names of the objects begin with
-- `object`, and `table` has the rows below each
abbrev pub object_rows : List ℕ → (List ℕ → List Row) → ℕ → List (List ℕ) → List Row
object_rows object table n names =
    flat_map (λ i. map (row_of_node (node_name object i.0)) (table i.1)) (enumerate_from n names)
