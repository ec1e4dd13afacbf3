-- The rows of a bay's controls by their names, and the handles that a tree returns for them.
use Rattle.std.specs.Prelude.{◌≡◌, ℕ, ◌<◌, List, Some, slice_get}
use Rattle.bay_tree.specs.Rows.{row_index}
use Rattle.bay_tree.specs.declared.row.Row.{Row}
use Rattle.bay_tree.specs.declared.leaf.LeafType.TheVariants as leaf_type
use Rattle.bay_nodes.specs.Names.{ControlNames, control_names}
use Rattle.bay_process.specs.Layout.{HasLeafType, layout_of}
use Rattle.bay_process.specs.Nodes.{HasLeaf}
use Rattle.bay_process.specs.declared.controls.ControlRows.{ControlRows}

-- the rows have the value stSeld for each of the first `count` switches
abbrev pub HaveSelected : List Row → ℕ → Type 0
HaveSelected rows count =
    (k : ℕ) → k < count → HasLeaf rows (control_names k).selected leaf_type.Truth

-- each handle is the index of the row with its name, if there is one; the row stSeld always exists
pub record AreControlRows (rows : List Row) (names : ControlNames) (handles : ControlRows)
    : Type 0 where
  pub selected : row_index rows names.selected ≡ Some handles.selected
  pub selected_type : HasLeafType (layout_of rows) handles.selected leaf_type.Truth
  pub select : handles.select ≡ row_index rows names.select
  pub select_with_value : handles.select_with_value ≡ row_index rows names.select_with_value
  pub operate : handles.operate ≡ row_index rows names.operate
  pub cancel : handles.cancel ≡ row_index rows names.cancel

-- the handles of the control of the switch at each index
abbrev pub AreAllControlRows : List Row → List ControlRows → Type 0
AreAllControlRows rows controls = (k : ℕ) (handles : ControlRows)
    → slice_get controls k ≡ Some handles → AreControlRows rows (control_names k) handles
