-- The bay that clients read and control.
use Rattle.std.specs.Prelude.{ℕ, zero, suc, ◌==◌, ◌≡◌, ◌<◌, Bool, false, List, length, Option, Some, None}
use Rattle.bay_nodes.specs.declared.switch.Switch.{Switch}
use Rattle.bay_nodes.specs.Names.{control_names}
use Rattle.bay_tree.specs.Rows.{with_leaf_named}
use Rattle.bay_tree.specs.declared.row.Row.{Row}
use Rattle.bay_tree.specs.declared.leaf.Leaf.TheVariants as leaf
use Rattle.bay_control.specs.Decisions.{State, selected_switch}

-- a bay: its name and its nameplate, its switches, the rows of its tree, the values of its inputs,
-- and its controls
pub record Bay : Type 0 where
  pub domain : List ℕ
  pub vendor : List ℕ
  pub model : List ℕ
  pub revision : List ℕ
  pub switches : List Switch
  pub rows : List Row
  pub inputs : List Bool
  pub controls : State

-- this switch is the selected one
abbrev pub is_selected : ℕ → Option ℕ → Bool
is_selected k None = false
is_selected k (Some j) = j == k

-- the rows with stSeld of the first n switches set: TRUE for the selected switch
abbrev pub rows_with_selection : Option ℕ → ℕ → List Row → List Row
rows_with_selection selected zero rows = rows
rows_with_selection selected (suc k) rows =
    with_leaf_named ((control_names k).selected) (leaf.Truth (is_selected k selected))
    (rows_with_selection selected k rows)

-- The rows have FALSE as stSeld of each of the first `count` switches.
abbrev pub ShowNoSelection : ℕ → List Row → Type 0
ShowNoSelection count rows = (k : ℕ) → k < count
    → with_leaf_named ((control_names k).selected) (leaf.Truth false) rows ≡ rows

-- the rows as clients see them under these controls
abbrev pub client_rows : Bay → State → List Row
client_rows b controls =
    rows_with_selection (selected_switch controls.selection) (length b.switches) b.rows

-- a bay with these controls
abbrev pub with_controls : State → Bay → Bay
with_controls controls b = record b { controls = controls }
