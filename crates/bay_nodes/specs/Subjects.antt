-- The values that the rows of a node take from what the node is about.
use Rattle.std.specs.Prelude.{ℕ, ℤ, pos, Bool, false, List}
use Rattle.bay_nodes.specs.declared.nameplate.Nameplate.{Nameplate}
use Rattle.bay_nodes.specs.declared.subject.Subject.{Subject}
use Rattle.bay_nodes.specs.declared.subject.Subject.TheVariants.{Device, Switch, Meter, Input}
use Rattle.bay_nodes.specs.Node as node

-- ---- own: values of subjects

-- the description: the model of the device, the id of a switch or a meter, the name of an input
-- (IEC 61850-7-3, d)
abbrev pub description : Nameplate → Subject → List ℕ
description n Device = n.model
description n (Switch s) = s.now.id
description n (Meter m) = m.now.id
description n (Input name) = name.now

-- the subject is a switch with a key
abbrev pub is_keyed : Subject → Bool
is_keyed Device = false
is_keyed (Switch s) = node.has_key s.now
is_keyed (Meter m) = false
is_keyed (Input name) = false

-- the type of a switch; 0 of another subject (IEC 61850-7-4, SwTyp)
abbrev pub switch_type : Subject → ℤ
switch_type Device = pos 0
switch_type (Switch s) = pos (node.type_number s.now.kind)
switch_type (Meter m) = pos 0
switch_type (Input name) = pos 0

-- the control model of a switch; 0 of another subject (IEC 61850-7-3, ctlModel)
abbrev pub control_model : Subject → ℤ
control_model Device = pos 0
control_model (Switch s) = pos (node.control_model_number s.now.control)
control_model (Meter m) = pos 0
control_model (Input name) = pos 0

-- how long a selection of a switch lasts; 0 of another subject (IEC 61850-7-3, sboTimeout)
abbrev pub select_timeout : Subject → ℕ
select_timeout Device = 0
select_timeout (Switch s) = s.now.sbo_timeout_ms
select_timeout (Meter m) = 0
select_timeout (Input name) = 0

-- the power of ten of a meter; 0 of another subject (IEC 61850-7-3, multiplier)
abbrev pub multiplier : Subject → ℤ
multiplier Device = pos 0
multiplier (Switch s) = pos 0
multiplier (Meter m) = node.multiplier m.now
multiplier (Input name) = pos 0
