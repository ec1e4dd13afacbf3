-- The names by which rows are found (IEC 61850-7-4: LLN0, LPHD, XCBR, XSWI, CSWI, CILO, MMXU and
-- GGIO; IEC 61850-8-1: names of variables).
use Rattle.std.specs.Prelude.{ℕ, ◌+◌, List, [], ◌++◌, codes}
use Rattle.bay_nodes.specs.declared.paths.StatusPaths.{StatusPaths}
use Rattle.bay_nodes.specs.declared.switch.Switch.{Switch}
use Rattle.bay_nodes.specs.Node.{class_of, node_name, node_number}

-- ---- own: names of rows

-- the names of a value, its quality and its time stamp (IEC 61850-7-3)
pub record StatusNames : Type 0 where
  pub value : List ℕ
  pub quality : List ℕ
  pub time : List ℕ

-- the names at these paths below a node
abbrev pub names_at : List ℕ → StatusPaths → StatusNames
names_at node paths = record {
  value = node ++ paths.value.now;
  quality = node ++ paths.quality.now;
  time = node ++ paths.time.now;
}

-- the names of a data object of a node; `value` is the path from the object to its value
abbrev pub value_names : List ℕ → List ℕ → List ℕ → StatusNames
value_names node object value = record {
  value = node ++ (object ++ value);
  quality = node ++ (object ++ codes "$q");
  time = node ++ (object ++ codes "$t");
}

-- the names of a status value (IEC 61850-7-3, stVal)
abbrev pub status_names : List ℕ → List ℕ → StatusNames
status_names node object = value_names node object (codes "$stVal")

-- the names of a switch's position, below XCBR or XSWI, and below CSWI, which repeats it (IEC
-- 61850-7-4, XCBR, XSWI, CSWI)
abbrev pub position_names : List ℕ → StatusNames
position_names node = status_names node (codes "$ST$Pos")

-- the names of a switch's operation count, below XCBR or XSWI (IEC 61850-7-4, OpCnt)
abbrev pub operation_names : List ℕ → StatusNames
operation_names node = status_names node (codes "$ST$OpCnt")

-- ---- IEC 61850-7-4 LLN0, LPHD, XCBR, XSWI, GGIO: names of the values that profile 2 adds

-- the names of the health of the device, below LLN0 (IEC 61850-7-4, Health)
abbrev pub health_names : StatusNames
health_names = status_names (codes "LLN0") (codes "$ST$Health")

-- the names of the health of the physical device, below LPHD1 (IEC 61850-7-4, PhyHealth)
abbrev pub physical_health_names : StatusNames
physical_health_names = status_names (codes "LPHD1") (codes "$ST$PhyHealth")

-- the names of whether a switch accepts local commands only, below XCBR or XSWI (IEC 61850-7-4,
-- Loc)
abbrev pub local_names : List ℕ → StatusNames
local_names node = status_names node (codes "$ST$Loc")

-- the names of the value of the input with a number; its data object is below GGIO1 (IEC 61850-7-4,
-- Ind)
abbrev pub indication_names : ℕ → StatusNames
indication_names number = status_names (node_name (codes "GGIO1$ST$Ind") number) []

-- ---- IEC 61850-7-4 CILO: names of interlocking values

-- the names of the release of the opening, below CILO
abbrev pub opening_names : List ℕ → StatusNames
opening_names node = status_names node (codes "$ST$EnaOpn")

-- the names of the release of the closing, below CILO
abbrev pub closing_names : List ℕ → StatusNames
closing_names node = status_names node (codes "$ST$EnaCls")

-- ---- own: names of a switch

-- the names of a switch's position, of the position below its control, of its operation count and
-- of its two interlocking values
pub record SwitchNames : Type 0 where
  pub position : StatusNames
  pub control : StatusNames
  pub operations : StatusNames
  pub ena_opn : StatusNames
  pub ena_cls : StatusNames

-- the names below a node XCBR or XSWI, a node CSWI and a node CILO
abbrev pub names_by_nodes : List ℕ → List ℕ → List ℕ → SwitchNames
names_by_nodes node control interlocking = record {
  position = position_names node;
  control = position_names control;
  operations = operation_names node;
  ena_opn = opening_names interlocking;
  ena_cls = closing_names interlocking;
}

-- the node of a switch is XCBR or XSWI, with its number among the switches of its class (IEC
-- 61850-7-4, XCBR, XSWI)
abbrev pub switch_node : List Switch → ℕ → Switch → List ℕ
switch_node switches k switch = node_name (class_of switch.kind) (node_number switches switch k)

-- the node of the control of the switch at index k; its number is k + 1 (IEC 61850-7-4, CSWI)
abbrev pub cswi_name : ℕ → List ℕ
cswi_name k = node_name (codes "CSWI") (k + 1)

-- the node of the interlocking of the switch at index k (IEC 61850-7-4, CILO)
abbrev pub cilo_name : ℕ → List ℕ
cilo_name k = node_name (codes "CILO") (k + 1)

-- ---- IEC 61850-7-4 CILO: names of interlocking values by index

-- the names of the release of the opening of the switch at index k
abbrev pub opening_names_at : ℕ → StatusNames
opening_names_at k = opening_names (cilo_name k)

-- the names of the release of the closing of the switch at index k
abbrev pub closing_names_at : ℕ → StatusNames
closing_names_at k = closing_names (cilo_name k)

-- the names of the switch at index k (own)
abbrev pub switch_names : List Switch → ℕ → Switch → SwitchNames
switch_names switches k switch =
    names_by_nodes (switch_node switches k switch) (cswi_name k) (cilo_name k)

-- ---- IEC 61850-8-1 SBO, SBOw, Oper, Cancel: names of controls

-- the names of a control: stSeld, and the rows that select the switch, select it with value,
-- operate it, and cancel its selection (IEC 61850-7-2, control; IEC 61850-8-1, SBO, SBOw, Oper and
-- Cancel)
pub record ControlNames : Type 0 where
  pub selected : List ℕ
  pub select : List ℕ
  pub select_with_value : List ℕ
  pub operate : List ℕ
  pub cancel : List ℕ

-- the names below a node CSWI
abbrev pub control_names_of : List ℕ → ControlNames
control_names_of node = record {
  selected = node ++ codes "$ST$Pos$stSeld";
  select = node ++ codes "$CO$Pos$SBO";
  select_with_value = node ++ codes "$CO$Pos$SBOw";
  operate = node ++ codes "$CO$Pos$Oper";
  cancel = node ++ codes "$CO$Pos$Cancel";
}

-- the names of the control of the switch at index k
abbrev pub control_names : ℕ → ControlNames
control_names k = control_names_of (cswi_name k)

-- ---- IEC 61850-7-3 MV, CMV: names of measured values

-- the names of a measured value (IEC 61850-7-3, MV)
abbrev pub total_names : List ℕ → List ℕ → StatusNames
total_names node object = value_names node object (codes "$mag$i")

-- the names of the measured value of a phase (IEC 61850-7-3, CMV)
abbrev pub phase_names : List ℕ → List ℕ → StatusNames
phase_names node object = value_names node object (codes "$cVal$mag$i")

-- ---- IEC 61850-7-4 MMXU: names of meters

-- the names of a meter's values
pub record MeterNames : Type 0 where
  pub tot_w : StatusNames
  pub tot_var : StatusNames
  pub hz : StatusNames
  pub phase_a : StatusNames
  pub phase_b : StatusNames
  pub phase_c : StatusNames

-- the names below a node MMXU
abbrev pub meter_names_of : List ℕ → MeterNames
meter_names_of node = record {
  tot_w = total_names node (codes "$MX$TotW");
  tot_var = total_names node (codes "$MX$TotVAr");
  hz = total_names node (codes "$MX$Hz");
  phase_a = phase_names node (codes "$MX$A$phsA");
  phase_b = phase_names node (codes "$MX$A$phsB");
  phase_c = phase_names node (codes "$MX$A$phsC");
}

-- the names of the meter at index k; the number of its node is k + 1
abbrev pub meter_names : ℕ → MeterNames
meter_names k = meter_names_of (node_name (codes "MMXU") (k + 1))

-- the names of a meter's values as floats, which a meter with a scale has
pub record FloatNames : Type 0 where
  pub tot_w : List ℕ
  pub tot_var : List ℕ
  pub hz : List ℕ
  pub phase_a : List ℕ
  pub phase_b : List ℕ
  pub phase_c : List ℕ

-- the names of the floats below a node MMXU (IEC 61850-7-3, AnalogueValue)
abbrev pub float_names_of : List ℕ → FloatNames
float_names_of node = record {
  tot_w = node ++ codes "$MX$TotW$mag$f";
  tot_var = node ++ codes "$MX$TotVAr$mag$f";
  hz = node ++ codes "$MX$Hz$mag$f";
  phase_a = node ++ codes "$MX$A$phsA$cVal$mag$f";
  phase_b = node ++ codes "$MX$A$phsB$cVal$mag$f";
  phase_c = node ++ codes "$MX$A$phsC$cVal$mag$f";
}

-- the names of the floats of the meter at index k
abbrev pub float_names : ℕ → FloatNames
float_names k = float_names_of (node_name (codes "MMXU") (k + 1))
