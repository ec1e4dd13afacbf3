-- The logical nodes of a bay (IEC 61850-7-4), as rows of the tree (IEC 61850-8-1, names of named
-- variables).
use Rattle.std.specs.Prelude.{ℕ, ◌+◌, ℤ, pos, Bool, true, false, not, List, [], ◌∷◌, ◌++◌, map, filter, take, length, codes, Option, None, Some, is_some, unwrap_or, if◌then◌else◌}
use Rattle.std.specs.List.{flat_map, enumerate_from}
use Rattle.std.specs.Fmt.{decimal}
use Rattle.bay_tree.specs.declared.row.Row.{Row}
use Rattle.bay_tree.specs.declared.leaf.Leaf.{Leaf}
use Rattle.bay_tree.specs.declared.leaf.Leaf.TheVariants.{Truth, Dbpos, Quality, Int8, Int32, Unsigned8, Unsigned32, Float, Octets, Reference, Text, Utc}
use Rattle.bay_base.specs.declared.position.Dbpos.TheVariants.{Intermediate}
use Rattle.bay_tree.specs.declared.leaf.Quality.{Quality as Validity}
use Rattle.bay_tree.specs.declared.leaf.Quality.TheVariants.{Good, Invalid}
use Rattle.bay_base.specs.declared.switch.Control.{Control}
use Rattle.bay_base.specs.declared.switch.Control.TheVariants.{Status, Direct, Sbo, SboEnhanced}
use Rattle.bay_nodes.specs.declared.switch.Switch.{Switch}
use Rattle.bay_base.specs.declared.switch.SwitchKind.{SwitchKind}
use Rattle.bay_base.specs.declared.switch.SwitchKind.TheVariants.{Breaker, Disconnector, Earthing}
use Rattle.bay_nodes.specs.declared.nameplate.Nameplate.{Nameplate}
use Rattle.bay_nodes.specs.declared.profile.Profile.{Profile}
use Rattle.bay_nodes.specs.declared.profile.Profile.TheVariants.{One, Two}
use Rattle.bay_nodes.specs.declared.meter.Meter.{Meter}

-- ---- own: parts of nodes, and their rows

-- a part of a logical node: a value, or a structure with its parts
mutual
  pub data NodePart : Type 0 where
    value : List ℕ → Leaf → NodePart
    structure : List ℕ → Parts → NodePart

  pub data Parts : Type 0 where
    end : Parts
    part : NodePart → Parts → Parts

-- a row of the tree
abbrev pub row : List ℕ → Option Leaf → Row
row name leaf = record { name = name; leaf = leaf }

-- the rows of a part and of a list of parts, depth first; each name begins with `path`
abbrev mutual
  pub rows_of : List ℕ → NodePart → List Row
  rows_of path (value name leaf) = row (path ++ codes "$" ++ name) (Some leaf) ∷ []
  rows_of path (structure name parts) =
      row (path ++ codes "$" ++ name) None ∷ rows_of_parts (path ++ codes "$" ++ name) parts

  pub rows_of_parts : List ℕ → Parts → List Row
  rows_of_parts path end = []
  rows_of_parts path (part p ps) = rows_of path p ++ rows_of_parts path ps

-- a logical node: its name and its parts
pub record Node : Type 0 where
  pub name : List ℕ
  pub parts : Parts

-- the rows of a logical node: its own row, then those of its parts; each name begins with the
-- node's
abbrev pub node_rows : Node → List Row
node_rows node =
    row node.name None ∷ map (λ r. row (node.name ++ r.name) r.leaf) (rows_of_parts [] node.parts)

-- a list of parts as the parts of a structure
abbrev pub parts_of : List NodePart → Parts
parts_of [] = end
parts_of (p ∷ ps) = part p (parts_of ps)

-- a structure with its parts
abbrev pub inside : List ℕ → List NodePart → NodePart
inside name ps = structure name (parts_of ps)

-- the quality of a value, and its time stamp, 0 (IEC 61850-7-3, Quality; IEC 61850-7-2, TimeStamp)
abbrev pub stamp : Validity → List NodePart
stamp q = value (codes "q") (Quality q) ∷ value (codes "t") (Utc 0) ∷ []

-- a data object with a value, its quality and its time stamp (IEC 61850-7-3, stVal)
abbrev pub status : List ℕ → Leaf → Validity → NodePart
status name v q = inside name (value (codes "stVal") v ∷ stamp q)

-- a data object with status only: its control model is 0 (IEC 61850-7-3, ctlModel)
abbrev pub status_only : List ℕ → NodePart
status_only name = inside name (value (codes "ctlModel") (Int8 (pos 0)) ∷ [])

-- ---- IEC 61850-7-4: what the nodes of profile 2 have in common

-- the behaviour of a node, 1: `on`; in profile 1 only LLN0 has one (IEC 61850-7-4, Beh)
abbrev pub behaviour : Profile → List NodePart
behaviour One = []
behaviour Two = status (codes "Beh") (Int8 (pos 1)) Good ∷ []

-- a name plate with a description, and what follows it (IEC 61850-7-3, LPL)
abbrev pub name_plate : Nameplate → List ℕ → List NodePart → NodePart
name_plate n description more =
    inside (codes "NamPlt")
    (value (codes "vendor") (Text n.vendor) ∷ value (codes "swRev") (Text n.revision)
    ∷ value (codes "d") (Text description) ∷ more)

-- the group with the name plate of a node; in profile 1 only LLN0 has one (IEC 61850-7-2, DC)
abbrev pub description_group : Profile → Nameplate → List ℕ → List NodePart
description_group One n description = []
description_group Two n description =
    inside (codes "DC") (name_plate n description [] ∷ []) ∷ []

-- the revision of the configuration, and the name space of the classes (IEC 61850-7-3, configRev
-- and ldNs)
abbrev pub name_space : Profile → Nameplate → List NodePart
name_space One n = []
name_space Two n =
    value (codes "configRev") (Text n.revision)
    ∷ value (codes "ldNs") (Text (codes "IEC 61850-7-4:2007B")) ∷ []

-- ---- IEC 61850-7-4 LLN0, LPHD, XCBR, XSWI, CSWI, CILO: nodes of the device and of switches

-- the parts of LLN0, with the texts of the nameplate; mode, behaviour and health are 1: `on` and
-- `ok` (IEC 61850-7-4, LLN0)
abbrev pub device_parts : Profile → Nameplate → Parts
device_parts profile n =
    parts_of
    (inside (codes "ST") (status (codes "Mod") (Int8 (pos 1)) Good
    ∷ status (codes "Beh") (Int8 (pos 1)) Good ∷ status (codes "Health") (Int8 (pos 1)) Good
    ∷ [])
    ∷ inside (codes "CF") (status_only (codes "Mod") ∷ [])
    ∷ inside (codes "DC") (name_plate n n.model (name_space profile n) ∷ [])
    ∷ [])

-- the parts of LPHD (IEC 61850-7-4, LPHD)
abbrev pub physical_parts : Nameplate → Parts
physical_parts n =
    parts_of
    (inside (codes "ST") (status (codes "PhyHealth") (Int8 (pos 1)) Good
    ∷ status (codes "Proxy") (Truth false) Good ∷ [])
    ∷ inside (codes "DC") (inside (codes "PhyNam") (value (codes "vendor") (Text n.vendor) ∷ [])
    ∷ [])
    ∷ [])

-- the type of a switch: 2 of a disconnector, 3 of an earthing switch; a breaker has none (IEC
-- 61850-7-4, SwTyp)
abbrev pub type_number : SwitchKind → ℕ
type_number Breaker = 0
type_number Disconnector = 2
type_number Earthing = 3

-- the position of a switch, and whether it is blocked; nothing blocks it (IEC 61850-7-4, Pos,
-- BlkOpn and BlkCls)
abbrev pub position_values : List NodePart
position_values =
    status (codes "Pos") (Dbpos Intermediate) Invalid
    ∷ status (codes "BlkOpn") (Truth false) Good
    ∷ status (codes "BlkCls") (Truth false) Good
    ∷ []

-- how often a switch has operated (IEC 61850-7-4, OpCnt)
abbrev pub operation_count : NodePart
operation_count = status (codes "OpCnt") (Int32 (pos 0)) Good

-- the type of a switch of this kind; the first argument says whether it is a breaker (IEC
-- 61850-7-4, SwTyp)
abbrev pub switch_type : Bool → SwitchKind → List NodePart
switch_type true kind = []
switch_type false kind = status (codes "SwTyp") (Int8 (pos (type_number kind))) Good ∷ []

-- the operating capability of a breaker or another switch, 2: it can open (IEC 61850-7-4, CBOpCap
-- and SwOpCap)
abbrev pub capability : Bool → NodePart
capability true = status (codes "CBOpCap") (Int8 (pos 2)) Good
capability false = status (codes "SwOpCap") (Int8 (pos 2)) Good

-- a switch with a key
abbrev pub has_key : Switch → Bool
has_key s = is_some s.remote

-- whether the process has reported the key of a switch; a switch without a key needs no report
abbrev pub key_quality : Bool → Validity
key_quality keyed = if keyed then Invalid else Good

-- whether only local commands are accepted: until the key of a switch is reported it is at local,
-- and a switch without a key is not (IEC 61850-7-4, Loc)
abbrev pub local_control : Switch → NodePart
local_control s = status (codes "Loc") (Truth (has_key s)) (key_quality (has_key s))

-- the status of a switch; the second argument says whether it is a breaker (IEC 61850-7-4, XCBR,
-- XSWI)
abbrev pub position_status : Profile → Bool → Switch → List NodePart
position_status One breaker s =
    position_values ++ operation_count ∷ switch_type breaker s.kind
position_status Two breaker s =
    (status (codes "Beh") (Int8 (pos 1)) Good ∷ local_control s ∷ operation_count
    ∷ switch_type breaker s.kind)
    ++ capability breaker ∷ position_values

-- the parts of the node of a switch's position; the second argument says whether it is a breaker
-- (IEC 61850-7-4, XCBR, XSWI)
abbrev pub position_parts : Profile → Bool → Nameplate → Switch → Parts
position_parts profile breaker n s =
    parts_of
    (inside (codes "ST") (position_status profile breaker s)
    ∷ inside (codes "CF") (status_only (codes "Pos") ∷ [])
    ∷ description_group profile n s.id)

-- the structure that a client writes to operate a switch, or to select it with value (IEC
-- 61850-8-1, Oper and SBOw)
abbrev pub operate_part : List ℕ → NodePart
operate_part name =
    inside name
    (value (codes "ctlVal") (Truth false)
    ∷ inside (codes "origin")
    (value (codes "orCat") (Int8 (pos 0)) ∷ value (codes "orIdent") (Octets []) ∷ [])
    ∷ value (codes "ctlNum") (Unsigned8 0)
    ∷ value (codes "T") (Utc 0)
    ∷ value (codes "Test") (Truth false)
    ∷ value (codes "Check") (Dbpos Intermediate)
    ∷ [])

-- the structure that a client writes to cancel a selection; it has no Check (IEC 61850-8-1, Cancel)
abbrev pub cancel_part : NodePart
cancel_part =
    inside (codes "Cancel")
    (value (codes "ctlVal") (Truth false)
    ∷ inside (codes "origin")
    (value (codes "orCat") (Int8 (pos 0)) ∷ value (codes "orIdent") (Octets []) ∷ [])
    ∷ value (codes "ctlNum") (Unsigned8 0)
    ∷ value (codes "T") (Utc 0)
    ∷ value (codes "Test") (Truth false)
    ∷ [])

-- the functional constraint CO with these parts below Pos (IEC 61850-7-2, CO)
abbrev pub control_structure : List NodePart → List NodePart
control_structure ps = inside (codes "CO") (inside (codes "Pos") ps ∷ []) ∷ []

-- the control rows of a switch, by its kind of control (IEC 61850-8-1, SBO, SBOw, Oper, Cancel)
abbrev pub command_parts : Control → List NodePart
command_parts Status = []
command_parts Direct = control_structure (operate_part (codes "Oper") ∷ [])
command_parts Sbo =
    control_structure (value (codes "SBO") (Reference []) ∷ operate_part (codes "Oper")
    ∷ cancel_part ∷ [])
command_parts SboEnhanced =
    control_structure (operate_part (codes "SBOw") ∷ operate_part (codes "Oper") ∷ cancel_part ∷ [])

-- the number of a control model (IEC 61850-7-3, ctlModel)
abbrev pub control_model_number : Control → ℕ
control_model_number Status = 0
control_model_number Direct = 1
control_model_number Sbo = 2
control_model_number SboEnhanced = 4

-- the status of a control; its position repeats that of the switch (IEC 61850-7-4, CSWI)
abbrev pub control_status : Profile → NodePart
control_status profile =
    inside (codes "ST")
    (behaviour profile
    ++ inside (codes "Pos") (value (codes "stVal") (Dbpos Intermediate)
    ∷ stamp Invalid ++ value (codes "stSeld") (Truth false) ∷ []) ∷ [])

-- the settings of a control, and its name plate (IEC 61850-7-3, ctlModel and sboTimeout)
abbrev pub control_settings : Profile → Nameplate → Switch → List NodePart
control_settings profile n s =
    inside (codes "CF") (inside (codes "Pos")
    (value (codes "ctlModel") (Int8 (pos (control_model_number s.control)))
    ∷ value (codes "sboTimeout") (Unsigned32 s.sbo_timeout_ms) ∷ []) ∷ [])
    ∷ description_group profile n s.id

-- the parts of the node of a control (IEC 61850-7-4, CSWI)
abbrev pub control_parts : Profile → Nameplate → Switch → Parts
control_parts profile n s =
    parts_of (control_status profile ∷ command_parts s.control ++ control_settings profile n s)

-- the parts of the node of the interlocking (IEC 61850-7-4, CILO)
abbrev pub interlocking_parts : Profile → Nameplate → Switch → Parts
interlocking_parts profile n s =
    parts_of
    (inside (codes "ST")
    (behaviour profile
    ++ status (codes "EnaOpn") (Truth false) Invalid
    ∷ status (codes "EnaCls") (Truth false) Invalid ∷ [])
    ∷ description_group profile n s.id)

-- ---- IEC 61850-7-3 MV, CMV: measured values

-- a magnitude as a float, if the meter has a scale (IEC 61850-7-3, AnalogueValue)
abbrev pub float_part : Bool → List NodePart
float_part false = []
float_part true = value (codes "f") (Float (pos 0)) ∷ []

-- the magnitude of a measured value: an integer, and the same as a float, if the meter has a scale
-- (IEC 61850-7-3, AnalogueValue)
abbrev pub magnitude : Bool → NodePart
magnitude scaled = inside (codes "mag") (value (codes "i") (Int32 (pos 0)) ∷ float_part scaled)

-- a measured value (IEC 61850-7-3, MV)
abbrev pub measured_value : Bool → List ℕ → NodePart
measured_value scaled name = inside name (magnitude scaled ∷ stamp Invalid)

-- the measured value of a phase (IEC 61850-7-3, CMV)
abbrev pub phase_value : Bool → List ℕ → NodePart
phase_value scaled name =
    inside name (inside (codes "cVal") (magnitude scaled ∷ []) ∷ stamp Invalid)

-- the measured values of a meter; `scaled` says whether they have floats (IEC 61850-7-4, MMXU)
abbrev pub measured_values : Bool → NodePart
measured_values scaled =
    inside (codes "MX")
    (measured_value scaled (codes "TotW") ∷ measured_value scaled (codes "TotVAr")
    ∷ measured_value scaled (codes "Hz")
    ∷ inside (codes "A") (phase_value scaled (codes "phsA") ∷ phase_value scaled (codes "phsB")
    ∷ phase_value scaled (codes "phsC")
    ∷ []) ∷ [])

-- the unit of a value, by its number, and the power of ten by which the value is multiplied (IEC
-- 61850-7-3, Unit, SIUnit and multiplier)
abbrev pub units : List ℕ → ℕ → ℤ → NodePart
units name unit multiplier =
    inside name (inside (codes "units")
    (value (codes "SIUnit") (Int8 (pos unit)) ∷ value (codes "multiplier") (Int8 multiplier) ∷ [])
    ∷ [])

-- the units of the values of a meter with a scale: 62 is W, 63 VAr, 33 Hz, 5 A (IEC 61850-7-3,
-- SIUnit)
abbrev pub meter_units : ℤ → NodePart
meter_units scale =
    inside (codes "CF")
    (units (codes "TotW") 62 scale ∷ units (codes "TotVAr") 63 scale ∷ units (codes "Hz") 33 scale
    ∷ inside (codes "A") (units (codes "phsA") 5 scale ∷ units (codes "phsB") 5 scale
    ∷ units (codes "phsC") 5 scale
    ∷ []) ∷ [])

-- the power of ten by which the values of a meter are multiplied; 0 if it has no scale
abbrev pub multiplier : Meter → ℤ
multiplier m = unwrap_or m.scale (pos 0)

-- the group with the units of a meter, if it has a scale (IEC 61850-7-2, CF)
abbrev pub unit_group : Bool → Meter → List NodePart
unit_group false m = []
unit_group true m = meter_units (multiplier m) ∷ []

-- the first parts of the node of a meter: in profile 2 the measured values have floats, if the meter
-- has a scale (IEC 61850-7-4, MMXU)
abbrev pub meter_values : Profile → Bool → List NodePart
meter_values One scaled = measured_values false ∷ []
meter_values Two scaled = inside (codes "ST") (behaviour Two) ∷ measured_values scaled ∷ []

-- the parts that follow the measured values: in profile 2 their units, if the meter has a scale,
-- and the name plate (IEC 61850-7-4, MMXU)
abbrev pub meter_settings : Profile → Bool → Nameplate → Meter → List NodePart
meter_settings One scaled n m = []
meter_settings Two scaled n m = unit_group scaled m ++ description_group Two n m.id

-- the parts of the node of a meter (IEC 61850-7-4, MMXU)
abbrev pub meter_parts : Profile → Nameplate → Meter → Parts
meter_parts profile n m =
    parts_of
    (meter_values profile (is_some m.scale) ++ meter_settings profile (is_some m.scale) n m)

-- ---- IEC 61850-7-4 GGIO: the inputs

-- the name of an input's data object, by the number of the input (IEC 61850-7-4, Ind)
abbrev pub indication : ℕ → List ℕ
indication number = codes "Ind" ++ decimal number

-- the value of an input with its number (IEC 61850-7-4, Ind)
abbrev pub input_status : ℕ × List ℕ → NodePart
input_status i = status (indication i.0) (Truth false) Invalid

-- the name of an input with its number (IEC 61850-7-3, d)
abbrev pub input_description : ℕ × List ℕ → NodePart
input_description i = inside (indication i.0) (value (codes "d") (Text i.1) ∷ [])

-- the parts of the node of the inputs; its name plate describes the device (IEC 61850-7-4, GGIO)
abbrev pub input_parts : Nameplate → List (List ℕ) → Parts
input_parts n inputs =
    parts_of
    (inside (codes "ST") (behaviour Two ++ map input_status (enumerate_from 1 inputs))
    ∷ inside (codes "DC")
    (name_plate n n.model [] ∷ map input_description (enumerate_from 1 inputs))
    ∷ [])

-- ---- IEC 61850-7-4 XCBR, XSWI: classes of switches

-- only a breaker has the class XCBR (own)
abbrev pub is_breaker : SwitchKind → Bool
is_breaker Breaker = true
is_breaker Disconnector = false
is_breaker Earthing = false

-- the class of a switch's node: XCBR for a breaker, XSWI for any other switch
abbrev pub class_of : SwitchKind → List ℕ
class_of Breaker = codes "XCBR"
class_of Disconnector = codes "XSWI"
class_of Earthing = codes "XSWI"

-- a logical node's name: its class and its number (own)
abbrev pub node_name : List ℕ → ℕ → List ℕ
node_name class number = class ++ decimal number

-- the node LLN0, of the logical device (IEC 61850-7-4, LLN0)
abbrev pub device_node : Nameplate → Node
device_node n = record { name = codes "LLN0"; parts = device_parts n.profile n }

-- the node LPHD1, of the physical device; its class has no behaviour (IEC 61850-7-4, LPHD)
abbrev pub physical_node : Nameplate → Node
physical_node n = record { name = codes "LPHD1"; parts = physical_parts n }

-- the node of the position of a switch, with its number (IEC 61850-7-4, XCBR, XSWI)
abbrev pub position_node : Nameplate → ℕ × Switch → Node
position_node n s =
    record {
      name = node_name (class_of s.1.kind) s.0;
      parts = position_parts n.profile (is_breaker s.1.kind) n s.1;
    }

-- the node of the control of a switch, with its number (IEC 61850-7-4, CSWI)
abbrev pub control_node : Nameplate → ℕ × Switch → Node
control_node n s =
    record { name = node_name (codes "CSWI") s.0; parts = control_parts n.profile n s.1 }

-- the node of the interlocking of a switch, with its number (IEC 61850-7-4, CILO)
abbrev pub interlocking_node : Nameplate → ℕ × Switch → Node
interlocking_node n s =
    record { name = node_name (codes "CILO") s.0; parts = interlocking_parts n.profile n s.1 }

-- the node of a meter with its number (IEC 61850-7-4, MMXU)
abbrev pub meter_node : Nameplate → ℕ × Meter → Node
meter_node n m =
    record { name = node_name (codes "MMXU") m.0; parts = meter_parts n.profile n m.1 }

-- the node of the inputs (IEC 61850-7-4, GGIO)
abbrev pub input_node : Nameplate → List (List ℕ) → Node
input_node n inputs = record { name = codes "GGIO1"; parts = input_parts n inputs }

-- ---- own: which nodes a bay has, in what order

-- the switch is a breaker; or it is not, if the first argument is false
abbrev pub is_in_group : Bool → Switch → Bool
is_in_group true s = is_breaker s.kind
is_in_group false s = not (is_breaker s.kind)

-- the nodes of the breakers or of the other switches, each group numbered from 1
abbrev pub position_nodes : Nameplate → Bool → List Switch → List Node
position_nodes n breakers switches =
    map (position_node n) (enumerate_from 1 (filter (is_in_group breakers) switches))

-- the nodes of the controls, numbered in the order of the switches, from 1
abbrev pub control_nodes : Nameplate → List Switch → List Node
control_nodes n switches = map (control_node n) (enumerate_from 1 switches)

-- the nodes of the interlocking, numbered in the order of the switches, from 1
abbrev pub interlocking_nodes : Nameplate → List Switch → List Node
interlocking_nodes n switches = map (interlocking_node n) (enumerate_from 1 switches)

-- the nodes of the meters, numbered from 1
abbrev pub meter_nodes : Nameplate → List Meter → List Node
meter_nodes n meters = map (meter_node n) (enumerate_from 1 meters)

-- the node of the inputs: in profile 2, if there are inputs
abbrev pub input_nodes : Profile → Nameplate → List (List ℕ) → List Node
input_nodes One n inputs = []
input_nodes Two n [] = []
input_nodes Two n (name ∷ names) = input_node n (name ∷ names) ∷ []

-- the nodes of a bay, in the order of the tree
abbrev pub nodes_of : Nameplate → List Switch → List (List ℕ) → List Meter → List Node
nodes_of n switches inputs meters =
    (device_node n ∷ physical_node n ∷ [])
    ++ (position_nodes n true switches
    ++ (position_nodes n false switches
    ++ (control_nodes n switches
    ++ (interlocking_nodes n switches
    ++ (meter_nodes n meters ++ input_nodes n.profile n inputs)))))

-- the rows of a bay
abbrev pub bay_rows : Nameplate → List Switch → List (List ℕ) → List Meter → List Row
bay_rows n switches inputs meters = flat_map node_rows (nodes_of n switches inputs meters)

-- the number of the switch at an index: one more than the number of switches of its class before it
abbrev pub node_number : List Switch → Switch → ℕ → ℕ
node_number switches s index =
    length (filter (is_in_group (is_breaker s.kind)) (take index switches)) + 1
