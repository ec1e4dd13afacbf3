-- The properties of every bay that is read, whatever its file holds.
use Rattle.std.specs.Prelude.{◌≡◌, ◌≢◌, ℕ, ◌+◌, ◌<◌, ◌≤◌, ◌++◌, Bool, pos, false, true, codes, Some, None, is_some, List, [], length, slice_get, All, AllPairs, Contains}
use Rattle.bay_tree.specs.declared.row.Row.{Row}
use Rattle.bay_tree.specs.declared.leaf.Leaf.{Leaf}
use Rattle.bay_tree.specs.declared.leaf.Leaf.TheVariants.{Truth, Dbpos, Quality, Float, Int8, Int32, Unsigned8, Octets, Reference, Utc}
use Rattle.bay_base.specs.declared.position.Dbpos.TheVariants.{Intermediate}
use Rattle.bay_tree.specs.declared.leaf.Quality.{Quality as Validity}
use Rattle.bay_tree.specs.declared.leaf.Quality.TheVariants.{Good, Invalid}
use Rattle.bay_tree.specs.Rows.{IsTree}
use Rattle.bay_config.specs.declared.bay.Bay.{Bay}
use Rattle.bay_base.specs.declared.point.Source.{Source}
use Rattle.bay_base.specs.declared.point.Source.TheVariants as sources
use Rattle.bay_base.specs.declared.point.Point.{Point}
use Rattle.bay_base.specs.declared.switch.Control.{Control}
use Rattle.bay_base.specs.declared.switch.Control.TheVariants.{Status, Direct, Sbo, SboEnhanced}
use Rattle.bay_nodes.specs.declared.meter.Meter.{Meter}
use Rattle.bay_nodes.specs.declared.switch.Switch.{Switch}
use Rattle.bay_nodes.specs.declared.nameplate.Nameplate.{Nameplate}
use Rattle.bay_nodes.specs.declared.profile.Profile.{Profile}
use Rattle.bay_nodes.specs.declared.profile.Profile.TheVariants.{One, Two}
use Rattle.bay_nodes.specs.Node.{Node, row, node_rows, node_name, class_of, is_breaker, node_number, has_key, key_quality, position_parts, control_parts, interlocking_parts, meter_parts, bay_rows}
use Rattle.bay_nodes.specs.Names.{StatusNames, position_names, operation_names, health_names, physical_health_names, local_names, indication_names, opening_names, closing_names, ControlNames, control_names_of, MeterNames, meter_names_of, FloatNames, float_names_of}
use Rattle.bay_config.specs.Point.{points_of, input_point, meter_points, bay_points}
use Rattle.bay_config.specs.Remote.{are_inputs}

-- the point is one of those of the switch at this index
pub record Owns (switches : List Switch) (index : ℕ) (point : Point) : Type 0 where
  pub switch : Switch
  pub here : slice_get switches index ≡ Some switch
  pub has : Contains (points_of index switch) point

-- the point is that of the input at this index
pub record OwnsInput (inputs : List (List ℕ)) (index : ℕ) (point : Point) : Type 0 where
  pub name : List ℕ
  pub here : slice_get inputs index ≡ Some name
  pub is : point ≡ input_point index name

-- the point is one of those of the meter at this index
pub record OwnsField (meters : List Meter) (index : ℕ) (point : Point) : Type 0 where
  pub meter : Meter
  pub here : slice_get meters index ≡ Some meter
  pub has : Contains (meter_points index meter.id) point

-- the point is one of the switch, the input or the meter that the source names
abbrev pub IsOwnedAt : List Switch → List (List ℕ) → List Meter → Point → Source → Type 0
IsOwnedAt switches inputs meters point (sources.Switch index which) = Owns switches index point
IsOwnedAt switches inputs meters point (sources.Input index) = OwnsInput inputs index point
IsOwnedAt switches inputs meters point (sources.Meter index field) = OwnsField meters index point

-- the point is one of the switch, the input or the meter that its own source names
abbrev pub IsOwned : List Switch → List (List ℕ) → List Meter → Point → Type 0
IsOwned switches inputs meters point = IsOwnedAt switches inputs meters point point.source

-- the nameplate of a bay, as its section `bay` gave it
abbrev pub nameplate_of : Bay → Nameplate
nameplate_of bay =
    record {
      domain = bay.domain;
      vendor = bay.vendor;
      model = bay.model;
      revision = bay.revision;
      scan_max_age_ms = bay.scan_max_age_ms;
      profile = bay.profile;
    }

-- the properties of each bay that a file describes
pub record IsBay (bay : Bay) : Type 0 where
  -- 1 to 32 switches, at most 64 inputs and at most 8 meters
  pub some_switch : 1 ≤ length bay.switches
  pub few_switches : length bay.switches ≤ 32
  pub few_inputs : length bay.inputs ≤ 64
  pub few_meters : length bay.meters ≤ 8
  -- the points and the rows are derived from the nameplate, the switches, the inputs and the meters
  pub points : bay.points ≡ bay_points bay.switches bay.inputs bay.meters
  pub rows : bay.rows ≡ bay_rows (nameplate_of bay) bay.switches bay.inputs bay.meters
  -- no two points have the same name, and each is one of the object that its source names
  pub names : AllPairs (λ p q. p.name ≢ q.name) bay.points
  pub owners : All (IsOwned bay.switches bay.inputs bay.meters) bay.points
  -- the key of each switch, if it has one, is an input
  pub keyed : are_inputs bay.inputs bay.switches ≡ true
  -- names of rows are distinct, and each row's parent is a structure before it
  pub tree : IsTree bay.rows

-- the bay has all rows of a node
abbrev pub HasNode : Bay → Node → Type 0
HasNode bay node = All (Contains bay.rows) (node_rows node)

-- the rows have a value with its quality and its time stamp, at their initial values
pub record HasValue (rows : List Row) (names : StatusNames) (value : Leaf) (quality : Validity)
    : Type 0 where
  pub value_there : Contains rows (row names.value (Some value))
  pub quality_there : Contains rows (row names.quality (Some (Quality quality)))
  pub moment_there : Contains rows (row names.time (Some (Utc 0)))

-- the rows have the position below a node XCBR or XSWI, and the operation count
pub record HasPosition (rows : List Row) (node : List ℕ) : Type 0 where
  pub position : HasValue rows (position_names node) (Dbpos Intermediate) Invalid
  pub operations : HasValue rows (operation_names node) (Int32 (pos 0)) Good

-- the rows have the position below a node CSWI, and stSeld
pub record HasControl (rows : List Row) (node : List ℕ) : Type 0 where
  pub position : HasValue rows (position_names node) (Dbpos Intermediate) Invalid
  pub selected : Contains rows (row (control_names_of node).selected (Some (Truth false)))

-- the rows have the structure of a Cancel at a name, with the initial value of each part (IEC
-- 61850-8-1)
pub record HasCancel (rows : List Row) (name : List ℕ) : Type 0 where
  pub structure : Contains rows (row name None)
  pub value : Contains rows (row (name ++ codes "$ctlVal") (Some (Truth false)))
  pub origin : Contains rows (row (name ++ codes "$origin") None)
  pub category : Contains rows (row (name ++ codes "$origin$orCat") (Some (Int8 (pos 0))))
  pub identity : Contains rows (row (name ++ codes "$origin$orIdent") (Some (Octets [])))
  pub number : Contains rows (row (name ++ codes "$ctlNum") (Some (Unsigned8 0)))
  pub moment : Contains rows (row (name ++ codes "$T") (Some (Utc 0)))
  pub test : Contains rows (row (name ++ codes "$Test") (Some (Truth false)))

-- Oper and SBOw have a Check too
pub record HasOperate (rows : List Row) (name : List ℕ) : Type 0 where
  pub parts : HasCancel rows name
  pub checks : Contains rows (row (name ++ codes "$Check") (Some (Dbpos Intermediate)))

-- the control rows of a switch that a client selects by a read
pub record HasSelectByRead (rows : List Row) (names : ControlNames) : Type 0 where
  pub select : Contains rows (row names.select (Some (Reference [])))
  pub operate : HasOperate rows names.operate
  pub cancel : HasCancel rows names.cancel

-- the control rows of a switch that a client selects with value, by a write like that of an operate
pub record HasSelectWithValue (rows : List Row) (names : ControlNames) : Type 0 where
  pub select : HasOperate rows names.select_with_value
  pub operate : HasOperate rows names.operate
  pub cancel : HasCancel rows names.cancel

-- the control rows of a kind of control
abbrev pub HasCommands : List Row → ControlNames → Control → Type 0
HasCommands rows names Status = Unit
HasCommands rows names Direct = HasOperate rows names.operate
HasCommands rows names Sbo = HasSelectByRead rows names
HasCommands rows names SboEnhanced = HasSelectWithValue rows names

-- the rows have an interlocking value of a node CILO
abbrev pub HasEnable : List Row → StatusNames → Type 0
HasEnable rows names = HasValue rows names (Truth false) Invalid

-- the rows have a measured value of a node MMXU
abbrev pub HasMeasured : List Row → StatusNames → Type 0
HasMeasured rows names = HasValue rows names (Int32 (pos 0)) Invalid

-- the rows have the six measured values of a meter
pub record HasMeter (rows : List Row) (names : MeterNames) : Type 0 where
  pub tot_w : HasMeasured rows names.tot_w
  pub tot_var : HasMeasured rows names.tot_var
  pub hz : HasMeasured rows names.hz
  pub phase_a : HasMeasured rows names.phase_a
  pub phase_b : HasMeasured rows names.phase_b
  pub phase_c : HasMeasured rows names.phase_c

-- the rows have a float with this name (IEC 61850-7-3, AnalogueValue)
abbrev pub HasFloat : List Row → List ℕ → Type 0
HasFloat rows name = Contains rows (row name (Some (Float (pos 0))))

-- the rows have the six measured values of a meter as floats
pub record HaveFloats (rows : List Row) (names : FloatNames) : Type 0 where
  pub tot_w : HasFloat rows names.tot_w
  pub tot_var : HasFloat rows names.tot_var
  pub hz : HasFloat rows names.hz
  pub phase_a : HasFloat rows names.phase_a
  pub phase_b : HasFloat rows names.phase_b
  pub phase_c : HasFloat rows names.phase_c

-- in profile 2 the rows have the floats of a meter with a scale
abbrev pub HasFloats : Profile → Bool → List Row → FloatNames → Type 0
HasFloats One scaled rows names = Unit
HasFloats Two false rows names = Unit
HasFloats Two true rows names = HaveFloats rows names

-- the rows have the switch's Loc below a node XCBR or XSWI: a switch with a key is local until the
-- key is reported (IEC 61850-7-4, Loc); in profile 1 there is none
abbrev pub HasLocal : Profile → List Row → List ℕ → Switch → Type 0
HasLocal One rows node switch = Unit
HasLocal Two rows node switch =
    HasValue rows (local_names node) (Truth (has_key switch)) (key_quality (has_key switch))

-- the rows have the health of the device and of the physical device; in profile 1 it never changes
pub record HasHealth (rows : List Row) : Type 0 where
  pub device : HasValue rows health_names (Int8 (pos 1)) Good
  pub physical : HasValue rows physical_health_names (Int8 (pos 1)) Good

-- the rows have a value of each of the first `count` inputs (IEC 61850-7-4, Ind)
abbrev pub HaveIndications : List Row → ℕ → Type 0
HaveIndications rows count =
    (k : ℕ) → k < count → HasValue rows (indication_names (k + 1)) (Truth false) Invalid

-- in profile 2 the rows have the value of each input; in profile 1 there are none
abbrev pub HasInputs : Profile → List Row → ℕ → Type 0
HasInputs One rows count = Unit
HasInputs Two rows count = HaveIndications rows count

-- the name is that of the node XCBR or XSWI of the switch at this index
pub record NamesPosition (bay : Bay) (index : ℕ) (name : List ℕ) : Type 0 where
  pub switch : Switch
  pub here : slice_get bay.switches index ≡ Some switch
  pub named : name ≡ node_name (class_of switch.kind) (node_number bay.switches switch index)
  pub node : IsBay bay → HasNode bay (record {
    name = name;
    parts = position_parts bay.profile (is_breaker switch.kind) (nameplate_of bay) switch;
  })
  pub rows : IsBay bay → HasPosition bay.rows name
  pub local : IsBay bay → HasLocal bay.profile bay.rows name switch

-- the name is that of the node CSWI of the switch at this index
pub record NamesControl (bay : Bay) (index : ℕ) (name : List ℕ) : Type 0 where
  pub switch : Switch
  pub here : slice_get bay.switches index ≡ Some switch
  pub named : name ≡ node_name (codes "CSWI") (index + 1)
  pub node : IsBay bay → HasNode bay
      (record { name = name; parts = control_parts bay.profile (nameplate_of bay) switch })
  pub rows : IsBay bay → HasControl bay.rows name
  pub commands : IsBay bay → HasCommands bay.rows (control_names_of name) switch.control

-- the name is that of the node CILO of the switch at this index
pub record NamesInterlocking (bay : Bay) (index : ℕ) (name : List ℕ) : Type 0 where
  pub switch : Switch
  pub here : slice_get bay.switches index ≡ Some switch
  pub named : name ≡ node_name (codes "CILO") (index + 1)
  pub node : IsBay bay → HasNode bay
      (record { name = name; parts = interlocking_parts bay.profile (nameplate_of bay) switch })
  pub open_rows : IsBay bay → HasEnable bay.rows (opening_names name)
  pub close_rows : IsBay bay → HasEnable bay.rows (closing_names name)

-- the name is that of the node MMXU of the meter at this index
pub record NamesMeter (bay : Bay) (index : ℕ) (name : List ℕ) : Type 0 where
  pub meter : Meter
  pub here : slice_get bay.meters index ≡ Some meter
  pub named : name ≡ node_name (codes "MMXU") (index + 1)
  pub node : IsBay bay → HasNode bay
      (record { name = name; parts = meter_parts bay.profile (nameplate_of bay) meter })
  pub rows : IsBay bay → HasMeter bay.rows (meter_names_of name)
  pub floats : IsBay bay
      → HasFloats bay.profile (is_some meter.scale) bay.rows (float_names_of name)
