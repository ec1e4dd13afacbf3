-- The handles of the rows of profile 2 that events change, and the same changes by these handles.
use Rattle.std.specs.Prelude.{◌≡◌, ℕ, ◌+◌, Bool, false, List, [], ◌∷◌, length, All, Option, None, Some, if◌then◌else◌}
use Rattle.bay_tree.specs.declared.row.Row.{Row}
use Rattle.bay_tree.specs.declared.leaf.LeafType.TheVariants as leaf_type
use Rattle.bay_tree.specs.declared.leaf.Quality.{Quality}
use Rattle.bay_tree.specs.declared.leaf.Quality.TheVariants.{Invalid}
use Rattle.bay_nodes.specs.declared.profile.Profile.{Profile}
use Rattle.bay_nodes.specs.declared.profile.Profile.TheVariants.{One, Two}
use Rattle.bay_nodes.specs.declared.switch.Switch.{Switch}
use Rattle.bay_nodes.specs.Names.{StatusNames, health_names, physical_health_names, local_names, indication_names, switch_node}
use Rattle.bay_control.specs.Decisions.{key_input}
use Rattle.bay_process.specs.Layout.{Layout, status_names_in, AreStatusRows}
use Rattle.bay_process.specs.Model.{is_keyed_by, with_truth}
use Rattle.bay_process.specs.declared.model.LocalRows.{LocalRows}
use Rattle.bay_process.specs.declared.model.ModelRows.{ModelRows}
use Rattle.bay_process.specs.declared.rows.StatusRows.{StatusRows}

-- the handles have these names, and their rows a truth value
pub record IsTruthBound (layout : Layout) (names : StatusNames) (rows : StatusRows) : Type 0 where
  pub named : status_names_in layout rows ≡ names
  pub leaf_typed : AreStatusRows layout leaf_type.Truth rows

-- the handles have these names, and their rows a small number
pub record IsHealthBound (layout : Layout) (names : StatusNames) (rows : StatusRows) : Type 0 where
  pub named : status_names_in layout rows ≡ names
  pub leaf_typed : AreStatusRows layout leaf_type.Int8 rows

-- the handles of Loc of the switch at index k, and the input of its key
pub record IsLocalBound (layout : Layout) (inputs : List (List ℕ)) (switches : List Switch) (k : ℕ)
    (switch : Switch) (local : LocalRows) : Type 0 where
  pub bound : IsTruthBound layout (local_names (switch_node switches k switch)) local.rows
  pub key : local.key ≡ key_input inputs switch

-- the handles of Loc of each of these switches, the first of which has index k
abbrev pub AreLocalsBound : Layout → List (List ℕ) → List Switch → ℕ → List Switch
    → List LocalRows → Type 0
AreLocalsBound layout inputs switches k [] [] = Unit
AreLocalsBound layout inputs switches k [] (local ∷ locals) = ⊥
AreLocalsBound layout inputs switches k (s ∷ ss) [] = ⊥
AreLocalsBound layout inputs switches k (s ∷ ss) (local ∷ locals) =
    IsLocalBound layout inputs switches k s local
    × AreLocalsBound layout inputs switches (k + 1) ss locals

-- the handles of the value of each input, the first of which has index k
abbrev pub AreInputsBound : Layout → ℕ → List StatusRows → Type 0
AreInputsBound layout k [] = Unit
AreInputsBound layout k (rows ∷ more) =
    IsTruthBound layout (indication_names (k + 1)) rows × AreInputsBound layout (k + 1) more

-- the handles of the rows of profile 2 that events change, of a bay with these inputs and switches
pub record IsModelBound (layout : Layout) (inputs : List (List ℕ)) (switches : List Switch)
    (model : ModelRows) : Type 0 where
  pub health : IsHealthBound layout health_names model.health
  pub physical : IsHealthBound layout physical_health_names model.physical
  pub locals : AreLocalsBound layout inputs switches 0 switches model.locals
  pub inputs_sized : length model.inputs ≡ length inputs
  pub inputs_bound : AreInputsBound layout 0 model.inputs

-- the profile of a device: 2 if it has such handles
abbrev pub profile_with : Option ModelRows → Profile
profile_with None = One
profile_with (Some model) = Two

-- the handles of a device, if it has any
abbrev pub IsModelled : Layout → List (List ℕ) → List Switch → Option ModelRows → Type 0
IsModelled layout inputs switches None = Unit
IsModelled layout inputs switches (Some model) = IsModelBound layout inputs switches model

-- ---- own: the changes by handle

-- the rows of Loc of each switch have a truth value
abbrev pub AreLocalsTyped : Layout → List LocalRows → Type 0
AreLocalsTyped layout locals =
    All (λ (local : LocalRows). AreStatusRows layout leaf_type.Truth local.rows) locals

-- the rows have truth values
abbrev pub AreTruths : Layout → List StatusRows → Type 0
AreTruths layout rows = All (λ r. AreStatusRows layout leaf_type.Truth r) rows

-- the rows with this Loc of each switch whose key is the input, or of each switch with a key if no
-- input is named
abbrev pub rows_after_locals : Layout → Option ℕ → Bool → Quality → ℕ → List LocalRows → List Row
    → List Row
rows_after_locals layout input value quality now [] rows = rows
rows_after_locals layout input value quality now (local ∷ locals) rows =
    rows_after_locals layout input value quality now locals
    (if is_keyed_by input local.key
    then with_truth (status_names_in layout local.rows) value quality now rows
    else rows)

-- the rows with FALSE as the value of each of these inputs, and invalid
abbrev pub rows_after_invalid : Layout → ℕ → List StatusRows → List Row → List Row
rows_after_invalid layout now [] rows = rows
rows_after_invalid layout now (input ∷ inputs) rows =
    rows_after_invalid layout now inputs
    (with_truth (status_names_in layout input) false Invalid now rows)
