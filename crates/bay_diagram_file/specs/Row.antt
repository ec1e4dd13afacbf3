-- The tables of a diagram file, each by itself: its values, and what is wrong with it.
use Rattle.std.specs.Prelude.{ℕ, Bool, true, false, not, ◌&&◌, ◌||◌, List, [], ◌∷◌, codes, Option, None, Some, is_some, option_and_then, slice_get, unwrap_or, if◌then◌else◌}
use Rattle.toml.specs.Data.{Data, Items, no_items, item, Members, get_member, as_array, as_bool, as_str, as_table}
use Rattle.bay_base.specs.declared.switch.SwitchKind.{SwitchKind}
use Rattle.bay_config.specs.Key.{has_unknown, is_identifier, passes, text_in, value_named}
use Rattle.bay_config.specs.Switch.{kinds}
use Rattle.bay_diagram.specs.declared.network.NodeKind.TheVariants.{Busbar, Line, Cable, Transformer, Junction}
use Rattle.bay_diagram_file.specs.declared.row.NodeRow.{NodeRow}
use Rattle.bay_diagram_file.specs.declared.row.NodeWord.{NodeWord}
use Rattle.bay_diagram_file.specs.declared.row.NodeWord.TheVariants.{Earth, Kind}
use Rattle.bay_diagram_file.specs.declared.row.RowFault.{RowFault}
use Rattle.bay_diagram_file.specs.declared.row.RowFault.TheVariants.{UnknownKey, MissingKey, BadValue}
use Rattle.bay_diagram_file.specs.declared.row.SwitchRow.{SwitchRow}

-- ---- values at keys

-- the table has the key
abbrev pub has_key : Members → List ℕ → Bool
has_key table name = is_some (get_member name table)

-- the value is a text
abbrev pub is_text : Data → Bool
is_text d = is_some (as_str d)

-- the value is a truth value
abbrev pub is_truth : Data → Bool
is_truth d = is_some (as_bool d)

-- the value passes a test, or there is none
abbrev pub may_be : (Data → Bool) → Option Data → Bool
may_be test None = true
may_be test (Some d) = test d

-- the text at a key, if it has one
abbrev pub text_of : Members → List ℕ → Option (List ℕ)
text_of table name = option_and_then as_str (get_member name table)

-- the truth value at a key; FALSE if there is none
abbrev pub truth_in : Members → List ℕ → Bool
truth_in table name = unwrap_or (option_and_then as_bool (get_member name table)) false

-- a name is at the key: a letter, then letters, digits and `_`; at most 32 characters
abbrev pub has_name : Members → List ℕ → Bool
has_name table name = passes (is_identifier 32) (text_of table name)

-- the items of a list of the file, as a list
abbrev pub list_of : Items → List Data
list_of no_items = []
list_of (item d ds) = d ∷ list_of ds

-- the items of a value that is a list; none if it is missing or no list
abbrev pub items_in : Option Items → List Data
items_in None = []
items_in (Some items) = list_of items

-- the values of the list at a key; none if it is missing or no list
abbrev pub values_in : Members → List ℕ → List Data
values_in table name = items_in (option_and_then as_array (get_member name table))

-- ---- a node

-- the words for the kinds of node
abbrev pub node_words : List (List ℕ × NodeWord)
node_words =
    (codes "busbar", Kind Busbar) ∷ (codes "line", Kind Line) ∷ (codes "cable", Kind Cable)
    ∷ (codes "transformer", Kind Transformer) ∷ (codes "junction", Kind Junction)
    ∷ (codes "earth", Earth) ∷ []

-- the kind of a node in a table; None if it is missing or none of the words
abbrev pub node_kind_in : Members → Option NodeWord
node_kind_in table = option_and_then (value_named node_words) (text_of table (codes "kind"))

-- the keys that the table of a node may have
abbrev pub node_keys : List (List ℕ)
node_keys =
    codes "name" ∷ codes "kind" ∷ codes "source" ∷ codes "system" ∷ codes "dead" ∷ []

-- the value at each key of the table of a node is one that it may have
abbrev pub has_node_values : Members → Bool
has_node_values table =
    has_name table (codes "name")
    && (is_some (node_kind_in table)
    && (may_be is_truth (get_member (codes "source") table)
    && (may_be is_text (get_member (codes "system") table)
    && may_be is_text (get_member (codes "dead") table))))

-- what is wrong with the table of a node by itself
abbrev pub node_fault : Members → Option RowFault
node_fault table =
    if has_unknown node_keys table then Some UnknownKey
    else if not (has_key table (codes "name") && has_key table (codes "kind")) then Some MissingKey
    else if not (has_node_values table) then Some BadValue else None

-- the table of a node, with what is wrong with it
abbrev pub node_row_of_table : Members → NodeRow
node_row_of_table table = record {
  fault = node_fault table;
  name = text_in table (codes "name");
  kind = unwrap_or (node_kind_in table) Earth;
  is_source = truth_in table (codes "source");
  has_system = has_key table (codes "system");
  dead = text_of table (codes "dead");
}

-- a value that is no table
abbrev pub bad_node_row : NodeRow
bad_node_row = record {
  fault = Some BadValue;
  name = [];
  kind = Earth;
  is_source = false;
  has_system = false;
  dead = None;
}

-- the row of a table of a node, or of a value that is no table
abbrev pub node_row_or_bad : Option Members → NodeRow
node_row_or_bad None = bad_node_row
node_row_or_bad (Some table) = node_row_of_table table

-- the row of a value of the section `node`
abbrev pub node_row_of_value : Data → NodeRow
node_row_of_value d = node_row_or_bad (as_table d)

-- ---- a switch

-- the kind of a switch in a table; None if it is missing or none of the words
abbrev pub switch_kind_in : Members → Option SwitchKind
switch_kind_in table = option_and_then (value_named kinds) (text_of table (codes "kind"))

-- the keys that the table of a switch may have
abbrev pub switch_keys : List (List ℕ)
switch_keys =
    codes "switch" ∷ codes "name" ∷ codes "kind" ∷ codes "nodes" ∷ codes "closed" ∷ codes "open"
    ∷ codes "isolates" ∷ codes "synchro" ∷ codes "coupler" ∷ []

-- two texts
abbrev pub are_two_texts : List Data → Bool
are_two_texts [] = false
are_two_texts (a ∷ []) = false
are_two_texts (a ∷ b ∷ []) = is_text a && is_text b
are_two_texts (a ∷ b ∷ c ∷ ds) = false

-- the table names two nodes
abbrev pub has_nodes : Members → Bool
has_nodes table = are_two_texts (values_in table (codes "nodes"))

-- the text at an index of a list, if there is one
abbrev pub text_at : List Data → ℕ → Option (List ℕ)
text_at ds i = option_and_then as_str (slice_get ds i)

-- the value at each key of the table of a switch is one that it may have
abbrev pub has_switch_values : Members → Bool
has_switch_values table =
    (not (has_key table (codes "switch")) || has_name table (codes "switch"))
    && ((not (has_key table (codes "name")) || has_name table (codes "name"))
    && ((not (has_key table (codes "kind")) || is_some (switch_kind_in table))
    && (has_nodes table
    && (may_be is_text (get_member (codes "closed") table)
    && (may_be is_text (get_member (codes "open") table)
    && (may_be is_truth (get_member (codes "isolates") table)
    && (may_be is_text (get_member (codes "synchro") table)
    && may_be is_truth (get_member (codes "coupler") table))))))))

-- what is wrong with the table of a switch by itself
abbrev pub switch_fault : Members → Option RowFault
switch_fault table =
    if has_unknown switch_keys table then Some UnknownKey
    else if not (has_key table (codes "nodes")) then Some MissingKey
    else if not (has_switch_values table) then Some BadValue else None

-- the table of a switch, with what is wrong with it
abbrev pub switch_row_of_table : Members → SwitchRow
switch_row_of_table table = record {
  fault = switch_fault table;
  switch = text_of table (codes "switch");
  name = text_of table (codes "name");
  kind = switch_kind_in table;
  one = unwrap_or (text_at (values_in table (codes "nodes")) 0) [];
  other = unwrap_or (text_at (values_in table (codes "nodes")) 1) [];
  closed = text_of table (codes "closed");
  opened = text_of table (codes "open");
  isolates = truth_in table (codes "isolates");
  synchro = text_of table (codes "synchro");
  is_coupler = truth_in table (codes "coupler");
}

-- a value that is no table
abbrev pub bad_switch_row : SwitchRow
bad_switch_row = record {
  fault = Some BadValue;
  switch = None;
  name = None;
  kind = None;
  one = [];
  other = [];
  closed = None;
  opened = None;
  isolates = false;
  synchro = None;
  is_coupler = false;
}

-- the row of a table of a switch, or of a value that is no table
abbrev pub switch_row_or_bad : Option Members → SwitchRow
switch_row_or_bad None = bad_switch_row
switch_row_or_bad (Some table) = switch_row_of_table table

-- the row of a value of the section `between`
abbrev pub switch_row_of_value : Data → SwitchRow
switch_row_of_value d = switch_row_or_bad (as_table d)
