-- The node of a row of the tree: a leaf's value, or the structure of the rows that are named by the
-- row's name, `$` and one word, in order.
use Rattle.std.specs.Prelude.{ℕ, ◌+◌, Option, Some, None, List, [], ◌∷◌, drop, if◌then◌else◌}
use Rattle.bay_tree.specs.declared.row.Row.{Row}
use Rattle.bay_tree.specs.declared.leaf.Leaf.{Leaf}
use Rattle.bay_tree.specs.Names.{word_of, is_below}
use Rattle.bay_tree.specs.Rows.{name_at, leaf_at}
use Rattle.bay_mms.specs.Data as mms
use Rattle.bay_mms.specs.Data.{Datum, Data, leaf_datum}
use Rattle.bay_mms.specs.Types as types
use Rattle.bay_mms.specs.Types.{TypeSpec, Components, leaf_type_spec}

-- ---- own: the node of a row

mutual
  pub data Node : Type 0 where
    value : Leaf → Node
    structure : Nodes → Node

  pub data Nodes : Type 0 where
    no_nodes : Nodes
    node : List ℕ → Node → Nodes → Nodes

-- the node of a row: its value if it is a leaf, and else a structure
abbrev pub node_of : Option Leaf → Nodes → Node
node_of (Some leaf) parts = value leaf
node_of None parts = structure parts

-- The nodes of the rows in a list that are directly below a name, in order. The rows of a structure
-- follow it.
abbrev pub nodes_in : List ℕ → List Row → Nodes
nodes_in parent [] = no_nodes
nodes_in parent (row ∷ later) =
    if is_below parent row.name
    then node (word_of row.name) (node_of row.leaf (nodes_in row.name later))
    (nodes_in parent later)
    else nodes_in parent later

-- the node of the row at an index
abbrev pub node_at : List Row → ℕ → Node
node_at rows index =
    node_of (leaf_at rows index) (nodes_in (name_at rows index) (drop (index + 1) rows))

-- ---- own: the data and the type of a node

abbrev mutual
  pub node_datum : Node → Datum
  node_datum (value leaf) = leaf_datum leaf
  node_datum (structure parts) = mms.structure (nodes_data parts)

  pub nodes_data : Nodes → Data
  nodes_data no_nodes = mms.no_data
  nodes_data (node name first later) = mms.datum (node_datum first) (nodes_data later)

abbrev mutual
  pub node_type : Node → TypeSpec
  node_type (value leaf) = leaf_type_spec leaf
  node_type (structure parts) = types.structure (nodes_types parts)

  pub nodes_types : Nodes → Components
  nodes_types no_nodes = types.no_components
  nodes_types (node name first later) = types.component name (node_type first) (nodes_types later)

-- the data of the row at an index
abbrev pub data_at : List Row → ℕ → Datum
data_at rows index = node_datum (node_at rows index)

-- the type of the row at an index
abbrev pub type_at : List Row → ℕ → TypeSpec
type_at rows index = node_type (node_at rows index)
