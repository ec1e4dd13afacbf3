-- The control that a name denotes (IEC 61850-8-1, SBO, SBOw, Oper and Cancel of CO).
use Rattle.std.specs.Prelude.{ℕ, zero, suc, ◌+◌, List, Option, Some, None, if◌then◌else◌}
use Rattle.std.specs.Str.{bytes_eq}
use Rattle.bay_nodes.specs.Names.{ControlNames, control_names}
use Rattle.bay_mms_services.specs.declared.target.ControlPart.{ControlPart}
use Rattle.bay_mms_services.specs.declared.target.ControlPart.TheVariants.{Select, SelectWith, Operate, Cancel}
use Rattle.bay_mms_services.specs.declared.target.Target.{Target}

-- the name of a part, among the names of a control
abbrev pub part_name : ControlPart → ControlNames → List ℕ
part_name Select names = names.select
part_name SelectWith names = names.select_with_value
part_name Operate names = names.operate
part_name Cancel names = names.cancel

-- the name of a part of the control of the switch at index k
abbrev pub control_name : ℕ → ControlPart → List ℕ
control_name k part = part_name part (control_names k)

-- the part of the control of the switch at index k that has this name
abbrev pub part_named : ℕ → List ℕ → Option ControlPart
part_named k name =
    if bytes_eq (control_name k Select) name then Some Select
    else if bytes_eq (control_name k SelectWith) name then Some SelectWith
    else if bytes_eq (control_name k Operate) name then Some Operate
    else if bytes_eq (control_name k Cancel) name then Some Cancel
    else None

-- this part of the switch at index k, or else a later target
abbrev pub or_later : ℕ → Option ControlPart → Option Target → Option Target
or_later k None later = later
or_later k (Some part) later = Some (record { switch = k; part = part })

-- the target with this name, among `count` switches from index k on
abbrev pub target_from : ℕ → ℕ → List ℕ → Option Target
target_from k zero name = None
target_from k (suc count) name = or_later k (part_named k name) (target_from (k + 1) count name)

-- the control of one of the first `count` switches and its part that have this name
abbrev pub target_of : ℕ → List ℕ → Option Target
target_of count name = target_from 0 count name
