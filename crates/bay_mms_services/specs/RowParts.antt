-- The rows of switches and controls in a tree.
use Rattle.std.specs.Prelude.{◌≡◌, ℕ, ◌==◌, Bool, false, List, Option, Some, None, option_map, slice_get, if◌then◌else◌}
use Rattle.bay_tree.specs.Rows.{IsHandle, name_at, row_index}
use Rattle.bay_tree.specs.declared.row.Row.{Row}
use Rattle.bay_process.specs.Layout.{Layout, switch_names_in, switches_of, AreSwitchRows}
use Rattle.bay_nodes.specs.Names.{switch_names}
use Rattle.bay_process.specs.declared.controls.ControlRows.{ControlRows}
use Rattle.bay_process.specs.declared.switch.BoundSwitch.{BoundSwitch}
use Rattle.bay_mms_services.specs.declared.target.ControlPart.{ControlPart}
use Rattle.bay_mms_services.specs.declared.target.ControlPart.TheVariants.{Select, SelectWith, Operate, Cancel}

-- the optional row is this one
abbrev pub is_row : ℕ → Option ℕ → Bool
is_row place None = false
is_row place (Some p) = p == place

-- the part of a switch's control that a row is, by the rows of the control
abbrev pub part_of_row : ControlRows → ℕ → Option ControlPart
part_of_row rows place =
    if is_row place rows.select then Some Select
    else if is_row place rows.select_with_value then Some SelectWith
    else if is_row place rows.operate then Some Operate
    else if is_row place rows.cancel then Some Cancel
    else None

-- the rows of the switch at index k have its names and their types
pub record IsBoundByName (layout : Layout) (switches : List BoundSwitch) (k : ℕ)
    (bound : BoundSwitch)
    : Type 0 where
  pub named : switch_names_in layout bound.rows ≡ switch_names (switches_of switches) k bound.switch
  pub leaf_typed : AreSwitchRows layout bound.rows

-- each switch has rows with its names
abbrev pub AreBoundByName : Layout → List BoundSwitch → Type 0
AreBoundByName layout switches =
    (k : ℕ) (b : BoundSwitch) → slice_get switches k ≡ Some b → IsBoundByName layout switches k b

-- the row is the first one with its own name
pub record IsFirstNamed (rows : List Row) (row : ℕ) : Type 0 where
  pub there : IsHandle rows row
  pub first : row_index rows (name_at rows row) ≡ Some row

-- the row stSeld of the selected switch, if there is one
abbrev pub marked_row : List ControlRows → Option ℕ → Option ℕ
marked_row controls None = None
marked_row controls (Some k) = option_map (λ rows. rows.selected) (slice_get controls k)
