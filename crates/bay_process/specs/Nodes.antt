-- The rows of a bay's switches by the names of their nodes, and the handles that a tree returns for
-- them.
use Rattle.std.specs.Prelude.{◌≡◌, ◌≢◌, ℕ, ◌+◌, ◌<◌, codes, length, List, Some, None, option_map, slice_get}
use Rattle.bay_tree.specs.LeafTypes.{leaf_type_of}
use Rattle.bay_tree.specs.Rows.{name_at, leaf_at, leaf_named}
use Rattle.bay_tree.specs.declared.row.Row.{Row}
use Rattle.bay_tree.specs.declared.leaf.LeafType.{LeafType}
use Rattle.bay_tree.specs.declared.leaf.LeafType.TheVariants as leaf_type
use Rattle.bay_config.specs.declared.bay.Bay.{Bay}
use Rattle.bay_nodes.specs.Node.{node_name}
use Rattle.bay_config.specs.Laws.{IsBay, NamesPosition, NamesControl, NamesInterlocking, NamesMeter}
use Rattle.bay_process.specs.Layout.{Layout, switch_names_in, AreSwitchRows, meter_names_in, AreMeterRows, AreFloatHandles}
use Rattle.bay_control.specs.Decisions.{controls_of}
use Rattle.bay_control.specs.Requests.{control_of}
use Rattle.bay_control.specs.declared.control.SwitchControl.{SwitchControl}
use Rattle.bay_nodes.specs.declared.profile.Profile.{Profile}
use Rattle.bay_nodes.specs.Names.{StatusNames, SwitchNames, names_by_nodes, local_names, indication_names, MeterNames, meter_names_of, float_names_of}
use Rattle.bay_process.specs.ModelRows.{IsTruthBound}
use Rattle.bay_process.specs.declared.model.LocalRows.{LocalRows}
use Rattle.bay_process.specs.declared.meter.MeterRows.{MeterRows}
use Rattle.bay_process.specs.declared.nodes.SwitchNodes.{SwitchNodes}
use Rattle.bay_process.specs.declared.rows.StatusRows.{StatusRows}
use Rattle.bay_process.specs.declared.rows.SwitchRows.{SwitchRows}

-- the nodes are those of the switch at an index
pub record AreNodesOf (bay : Bay) (index : ℕ) (nodes : SwitchNodes) : Type 0 where
  pub position_named : NamesPosition bay index nodes.position
  pub control_named : NamesControl bay index nodes.control
  pub interlocking_named : NamesInterlocking bay index nodes.interlocking

-- the nodes of each switch of a bay have their names
abbrev pub AreSwitchNodes : Bay → List SwitchNodes → Type 0
AreSwitchNodes bay nodes =
    (k : ℕ) (n : SwitchNodes) → slice_get nodes k ≡ Some n → AreNodesOf bay k n

-- the names of the values below a switch's three nodes
abbrev pub nodes_names : SwitchNodes → SwitchNames
nodes_names nodes = names_by_nodes nodes.position nodes.control nodes.interlocking

-- the rows have a value with this name and type
abbrev pub HasLeaf : List Row → List ℕ → LeafType → Type 0
HasLeaf rows name leaf_type = option_map leaf_type_of (leaf_named name rows) ≡ Some leaf_type

-- the rows have a value of this type with these names, its quality and its time stamp
pub record HasStatus (rows : List Row) (names : StatusNames) (value : LeafType) : Type 0 where
  pub value_leaf : HasLeaf rows names.value value
  pub quality_leaf : HasLeaf rows names.quality leaf_type.Quality
  pub time_leaf : HasLeaf rows names.time leaf_type.Utc

-- the rows have a switch's values
pub record HasSwitch (rows : List Row) (names : SwitchNames) : Type 0 where
  pub position : HasStatus rows names.position leaf_type.Dbpos
  pub control : HasStatus rows names.control leaf_type.Dbpos
  pub operations : HasStatus rows names.operations leaf_type.Int32
  pub ena_opn : HasStatus rows names.ena_opn leaf_type.Truth
  pub ena_cls : HasStatus rows names.ena_cls leaf_type.Truth

-- the rows have the values of each switch
abbrev pub HasSwitches : List Row → List SwitchNodes → Type 0
HasSwitches rows nodes =
    (k : ℕ) (n : SwitchNodes) → slice_get nodes k ≡ Some n → HasSwitch rows (nodes_names n)

-- the rows have a value for each of these names
pub record HaveStatus (rows : List Row) (names : StatusNames) : Type 0 where
  pub value_there : leaf_named names.value rows ≢ None
  pub quality_there : leaf_named names.quality rows ≢ None
  pub time_there : leaf_named names.time rows ≢ None

-- the handle's row has the name and the value of the name
pub record IsHandleOf (rows : List Row) (name : List ℕ) (handle : ℕ) : Type 0 where
  pub named : name_at rows handle ≡ name
  pub value : leaf_at rows handle ≡ leaf_named name rows

-- the handles of a value, its quality and its time stamp
pub record AreHandlesOf (rows : List Row) (names : StatusNames) (handles : StatusRows)
    : Type 0 where
  pub value_found : IsHandleOf rows names.value handles.value
  pub quality_found : IsHandleOf rows names.quality handles.quality
  pub time_found : IsHandleOf rows names.time handles.time

-- the handles of a switch's values have their names and their types
pub record AreSwitchRowsOf (layout : Layout) (names : SwitchNames) (rows : SwitchRows)
    : Type 0 where
  pub named : switch_names_in layout rows ≡ names
  pub leaf_typed : AreSwitchRows layout rows

-- the handles of each switch are those of its nodes
abbrev pub AreRowsOfNodes : Layout → List SwitchNodes → List SwitchRows → Type 0
AreRowsOfNodes layout nodes rows =
    (k : ℕ) (n : SwitchNodes) (r : SwitchRows) → slice_get nodes k ≡ Some n
    → slice_get rows k ≡ Some r
    → AreSwitchRowsOf layout (nodes_names n) r

-- the names are those of the meters' nodes
abbrev pub AreMeterNodes : Bay → List (List ℕ) → Type 0
AreMeterNodes bay nodes = (k : ℕ) (n : List ℕ) → slice_get nodes k ≡ Some n → NamesMeter bay k n

-- the rows have a meter's values
pub record HasMeterLeaves (rows : List Row) (names : MeterNames) : Type 0 where
  pub tot_w : HasStatus rows names.tot_w leaf_type.Int32
  pub tot_var : HasStatus rows names.tot_var leaf_type.Int32
  pub hz : HasStatus rows names.hz leaf_type.Int32
  pub phase_a : HasStatus rows names.phase_a leaf_type.Int32
  pub phase_b : HasStatus rows names.phase_b leaf_type.Int32
  pub phase_c : HasStatus rows names.phase_c leaf_type.Int32

-- the node is that of the meter at index k, and the rows have the meter's values
pub record HasMeterNode (rows : List Row) (k : ℕ) (node : List ℕ) : Type 0 where
  pub named : node ≡ node_name (codes "MMXU") (k + 1)
  pub leaves : HasMeterLeaves rows (meter_names_of node)

-- the rows have the values of each meter
abbrev pub HaveMeters : List Row → List (List ℕ) → Type 0
HaveMeters rows nodes = (k : ℕ) (n : List ℕ) → slice_get nodes k ≡ Some n → HasMeterNode rows k n

-- the handles of the values of the meter with this node have their names and their types
pub record AreMeterRowsOf (layout : Layout) (node : List ℕ) (rows : MeterRows) : Type 0 where
  pub named : meter_names_in layout rows ≡ meter_names_of node
  pub leaf_typed : AreMeterRows layout rows
  pub floats : AreFloatHandles layout (float_names_of node) rows

-- ---- the rows of profile 2 that events change

-- the rows have Loc of each of these nodes
abbrev pub HasLocalLeaves : List Row → List SwitchNodes → Type 0
HasLocalLeaves rows nodes = (k : ℕ) (n : SwitchNodes) → slice_get nodes k ≡ Some n
    → HasStatus rows (local_names n.position) leaf_type.Truth

-- the rows have the value of each of the first `count` inputs
abbrev pub HasInputLeaves : List Row → ℕ → Type 0
HasInputLeaves rows count =
    (k : ℕ) → k < count → HasStatus rows (indication_names (k + 1)) leaf_type.Truth

-- the handles of Loc below a node, and the input of the key of the switch at index k
pub record IsLocalRowsOf (layout : Layout) (controls : List SwitchControl) (k : ℕ)
    (nodes : SwitchNodes) (local : LocalRows) : Type 0 where
  pub bound : IsTruthBound layout (local_names nodes.position) local.rows
  pub key : local.key ≡ (control_of controls k).key

-- the handles of Loc below each of these nodes
abbrev pub AreLocalRowsOf : Layout → List SwitchNodes → List SwitchControl → List LocalRows
    → Type 0
AreLocalRowsOf layout nodes controls locals =
    (k : ℕ) (n : SwitchNodes) (local : LocalRows) → slice_get nodes k ≡ Some n
    → slice_get locals k ≡ Some local → IsLocalRowsOf layout controls k n local

-- the profile, the rows, the nodes, the inputs and the controls are those of a bay
pub record IsModelSource (bay : Bay) (profile : Profile) (rows : List Row)
    (nodes : List SwitchNodes) (inputs : List (List ℕ)) (controls : List SwitchControl)
    : Type 0 where
  pub sound : IsBay bay
  pub profile_is : bay.profile ≡ profile
  pub rows_are : bay.rows ≡ rows
  pub nodes_sized : length nodes ≡ length bay.switches
  pub nodes_named : AreSwitchNodes bay nodes
  pub inputs_are : bay.inputs ≡ inputs
  pub controls_are : controls ≡ controls_of bay.inputs bay.switches
