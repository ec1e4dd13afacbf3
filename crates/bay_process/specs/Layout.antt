-- The names and the types of the rows at the handles of switches and meters.
use Rattle.std.specs.Prelude.{◌≡◌, ◌≢◌, ℕ, ◌+◌, if◌then◌else◌, List, [], ◌∷◌, map, Option, Some, None, All, position, slice_get, slice_index_or}
use Rattle.std.specs.Option.{ForNone, ForSome}
use Rattle.std.specs.Str.{bytes_eq}
use Rattle.bay_tree.specs.Rows.{names_of, leaf_types_of}
use Rattle.bay_tree.specs.declared.row.Row.{Row}
use Rattle.bay_tree.specs.declared.leaf.LeafType.{LeafType}
use Rattle.bay_tree.specs.declared.leaf.LeafType.TheVariants as leaf_type
use Rattle.bay_nodes.specs.declared.switch.Switch.{Switch}
use Rattle.bay_nodes.specs.Names.{StatusNames, SwitchNames, switch_names, MeterNames, meter_names, FloatNames, float_names}
use Rattle.bay_process.specs.Names.{field_float}
use Rattle.bay_process.specs.declared.switch.SwitchOutputs.{SwitchOutputs}
use Rattle.bay_base.specs.declared.point.SwitchPoint.TheVariants.{EnableOpen, EnableClose}
use Rattle.bay_process.specs.Values.{is_point}
use Rattle.bay_base.specs.declared.point.Source.{Source}
use Rattle.bay_base.specs.declared.point.MeterField.{MeterField}
use Rattle.bay_base.specs.declared.point.MeterField.TheVariants.{TotW, TotVAr, Hz, PhaseA, PhaseB, PhaseC}
use Rattle.bay_process.specs.declared.meter.BoundMeter.{BoundMeter}
use Rattle.bay_process.specs.declared.meter.MeasureRows.{MeasureRows}
use Rattle.bay_process.specs.declared.meter.MeterRows.{MeterRows}
use Rattle.bay_process.specs.declared.rows.StatusRows.{StatusRows}
use Rattle.bay_process.specs.declared.rows.SwitchRows.{SwitchRows}
use Rattle.bay_process.specs.declared.switch.BoundSwitch.{BoundSwitch}

-- the names and the types of a tree's rows, which no write changes
pub record Layout : Type 0 where
  pub names : List (List ℕ)
  pub leaf_types : List (Option LeafType)

-- the layout of a tree
abbrev pub layout_of : List Row → Layout
layout_of rows = record { names = names_of rows; leaf_types = leaf_types_of rows }

-- the name of the row at a handle
abbrev pub row_name_in : Layout → ℕ → List ℕ
row_name_in layout handle = slice_index_or layout.names handle []

-- the names at the handles of a value, its quality and its time stamp
abbrev pub status_names_in : Layout → StatusRows → StatusNames
status_names_in layout rows =
    record {
      value = row_name_in layout rows.value;
      quality = row_name_in layout rows.quality;
      time = row_name_in layout rows.time;
    }

-- the names at the handles of a switch
abbrev pub switch_names_in : Layout → SwitchRows → SwitchNames
switch_names_in layout rows = record {
  position = status_names_in layout rows.position;
  control = status_names_in layout rows.control;
  operations = status_names_in layout rows.operations;
  ena_opn = status_names_in layout rows.ena_opn;
  ena_cls = status_names_in layout rows.ena_cls;
}

-- the row at the handle has a value of this type
abbrev pub HasLeafType : Layout → ℕ → LeafType → Type 0
HasLeafType layout handle leaf_type = slice_index_or layout.leaf_types handle None ≡ Some leaf_type

-- the rows have a value of this type, its quality and its time stamp
pub record AreStatusRows (layout : Layout) (value : LeafType) (rows : StatusRows) : Type 0 where
  pub value_type : HasLeafType layout rows.value value
  pub quality_type : HasLeafType layout rows.quality leaf_type.Quality
  pub time_type : HasLeafType layout rows.time leaf_type.Utc

-- the rows have a switch's position, the same below its control, its operation count, and its two
-- interlocking values
pub record AreSwitchRows (layout : Layout) (rows : SwitchRows) : Type 0 where
  pub position : AreStatusRows layout leaf_type.Dbpos rows.position
  pub control : AreStatusRows layout leaf_type.Dbpos rows.control
  pub operations : AreStatusRows layout leaf_type.Int32 rows.operations
  pub ena_opn : AreStatusRows layout leaf_type.Truth rows.ena_opn
  pub ena_cls : AreStatusRows layout leaf_type.Truth rows.ena_cls

-- the rows of each switch have their types
abbrev pub AreLeafTyped : Layout → List BoundSwitch → Type 0
AreLeafTyped layout bound = All (λ b. AreSwitchRows layout b.rows) bound

-- the bay's switches, in their order
abbrev pub switches_of : List BoundSwitch → List Switch
switches_of bound = map (λ b. b.switch) bound

-- the indices of the interlocking values of the switch at an index among the writable points
abbrev pub outputs_at : List Source → ℕ → SwitchOutputs
outputs_at writes k =
    record {
      ena_opn = position (is_point k EnableOpen) writes;
      ena_cls = position (is_point k EnableClose) writes;
    }

-- the handles of the switch at index k have its names, and its outputs are those of its points
pub record IsBound (layout : Layout) (writes : List Source) (switches : List Switch) (k : ℕ)
    (bound : BoundSwitch) : Type 0 where
  pub named : switch_names_in layout bound.rows ≡ switch_names switches k bound.switch
  pub leaf_typed : AreSwitchRows layout bound.rows
  pub outputs : bound.outputs ≡ outputs_at writes k

-- each switch is bound at its index
abbrev pub AreBound : Layout → List Source → List BoundSwitch → Type 0
AreBound layout writes bound = (k : ℕ) (b : BoundSwitch) → slice_get bound k ≡ Some b
    → IsBound layout writes (switches_of bound) k b

-- the switches with their rows and the indices of their interlocking values; the first has index k
abbrev pub bound_from : List Source → ℕ → List Switch → List SwitchRows → List BoundSwitch
bound_from writes k [] rows = []
bound_from writes k (s ∷ ss) [] = []
bound_from writes k (s ∷ ss) (r ∷ rs) =
    record { switch = s; rows = r; outputs = outputs_at writes k } ∷ bound_from writes (k + 1) ss rs

-- the names at the handles of a meter
abbrev pub meter_names_in : Layout → MeterRows → MeterNames
meter_names_in layout rows = record {
  tot_w = status_names_in layout rows.tot_w.status;
  tot_var = status_names_in layout rows.tot_var.status;
  hz = status_names_in layout rows.hz.status;
  phase_a = status_names_in layout rows.phase_a.status;
  phase_b = status_names_in layout rows.phase_b.status;
  phase_c = status_names_in layout rows.phase_c.status;
}

-- the rows of a field of a meter
abbrev pub field_rows : MeterRows → MeterField → MeasureRows
field_rows rows TotW = rows.tot_w
field_rows rows TotVAr = rows.tot_var
field_rows rows Hz = rows.hz
field_rows rows PhaseA = rows.phase_a
field_rows rows PhaseB = rows.phase_b
field_rows rows PhaseC = rows.phase_c

-- the rows have the measured values of a meter
pub record AreMeterRows (layout : Layout) (rows : MeterRows) : Type 0 where
  pub tot_w : AreStatusRows layout leaf_type.Int32 rows.tot_w.status
  pub tot_var : AreStatusRows layout leaf_type.Int32 rows.tot_var.status
  pub hz : AreStatusRows layout leaf_type.Int32 rows.hz.status
  pub phase_a : AreStatusRows layout leaf_type.Int32 rows.phase_a.status
  pub phase_b : AreStatusRows layout leaf_type.Int32 rows.phase_b.status
  pub phase_c : AreStatusRows layout leaf_type.Int32 rows.phase_c.status

-- the rows of each meter have their types
abbrev pub AreMetersLeafTyped : Layout → List BoundMeter → Type 0
AreMetersLeafTyped layout bound = All (λ m. AreMeterRows layout m.rows) bound

-- the bay's meters, in their order
abbrev pub meters_of : List BoundMeter → List (List ℕ)
meters_of bound = map (λ m. m.id) bound

-- the type of the value of the first row with a name, if it has one
abbrev pub type_among : List ℕ → List (List ℕ) → List (Option LeafType) → Option LeafType
type_among name [] types = None
type_among name (n ∷ ns) [] = None
type_among name (n ∷ ns) (t ∷ ts) = if bytes_eq n name then t else type_among name ns ts

-- the type of the value with a name
abbrev pub type_named : Layout → List ℕ → Option LeafType
type_named layout name = type_among name layout.names layout.leaf_types

-- the handle is that of the float with this name; without a handle there is no such float
pub record IsFloatHandle (layout : Layout) (name : List ℕ) (float : Option ℕ) : Type 0 where
  pub named : ForSome float (λ handle. row_name_in layout handle ≡ name)
  pub leaf_typed : ForSome float (λ handle. HasLeafType layout handle leaf_type.Float)
  pub missing : ForNone float (type_named layout name ≢ Some leaf_type.Float)

-- the handle is that of a float, if there is one
abbrev pub IsFloatTyped : Layout → Option ℕ → Type 0
IsFloatTyped layout float = ForSome float (λ handle. HasLeafType layout handle leaf_type.Float)

-- the handles of the floats of a meter have these names
abbrev pub AreFloatHandles : Layout → FloatNames → MeterRows → Type 0
AreFloatHandles layout names rows = (field : MeterField)
    → IsFloatHandle layout (field_float field names) (field_rows rows field).float

-- the handles of the meter at index k have its names
pub record IsMeterBound (layout : Layout) (k : ℕ) (rows : MeterRows) : Type 0 where
  pub named : meter_names_in layout rows ≡ meter_names k
  pub leaf_typed : AreMeterRows layout rows
  pub floats : AreFloatHandles layout (float_names k) rows

-- each meter is bound at its index
abbrev pub AreMetersBound : Layout → List BoundMeter → Type 0
AreMetersBound layout bound =
    (k : ℕ) (m : BoundMeter) → slice_get bound k ≡ Some m → IsMeterBound layout k m.rows
