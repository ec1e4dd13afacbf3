-- The reports of controls (IEC 61850-8-1, LastApplError and CommandTermination): information
-- reports (ISO 9506-2) with variables, by their names, and their data.
use Rattle.std.specs.Prelude.{ℕ, pos, List, [], ◌∷◌, ◌++◌, codes}
use Rattle.bay_ber.specs.Writing.{element, truth_octets, integer_octets, bit_string_octets}
use Rattle.bay_mms.specs.declared.control.Origin.{Origin}
use Rattle.bay_mms.specs.declared.control.OperateData.{OperateData}
use Rattle.bay_mms.specs.declared.report.LastApplError.{LastApplError}
use Rattle.bay_mms.specs.Data.{Datum, Data, structure, integer, unsigned, text, no_data, datum, data_text}
use Rattle.bay_mms.specs.Controls.{origin_datum, check_octet, operate_datum}
use Rattle.bay_mms.specs.ControlViews.{origin_view, operate_view}
use Rattle.bay_ber.specs.Tags.{context, constructed, sequence, visible_tag}

-- ---- ISO 9506-2 InformationReport: a report of variables

-- a variable, by its name
abbrev pub variable_text : List ℕ → List ℕ
variable_text name = element sequence (element (constructed 0) name)

-- variables, one after another
abbrev pub variables_text : List (List ℕ) → List ℕ
variables_text [] = []
variables_text (name ∷ names) = variable_text name ++ variables_text names

-- a report of variables and their data
abbrev pub report_text : List (List ℕ) → Data → List ℕ
report_text names values =
    element (constructed 3) (element (constructed 0)
    (element (constructed 0) (variables_text names) ++ element (constructed 0) (data_text values)))

-- ---- IEC 61850-8-1 LastApplError, CommandTermination: reports of controls

-- the name of the variable in reports of refused controls (IEC 61850-8-1, LastApplError)
abbrev pub failure_name : List ℕ
failure_name = element (context 0) (codes "LastApplError")

-- an item of a domain (ISO 9506-2, ObjectName)
abbrev pub item_name : List ℕ → List ℕ → List ℕ
item_name domain item =
    element (constructed 1) (element visible_tag domain ++ element visible_tag item)

-- CntrlObj, Error, which is 0, Origin, ctlNum and AddCause (IEC 61850-8-1, LastApplError)
abbrev pub failure_datum : LastApplError → Datum
failure_datum e =
    structure (datum (text e.object.now)
    (datum (integer (pos 0))
    (datum (origin_datum (origin_view e.origin))
    (datum (unsigned (pos e.ctl_num)) (datum (integer (pos e.add_cause)) no_data)))))

-- the report that a control was refused (IEC 61850-8-1, LastApplError)
abbrev pub last_appl_error_text : LastApplError → List ℕ
last_appl_error_text e = report_text (failure_name ∷ []) (datum (failure_datum e) no_data)

-- the report that a control has succeeded, which repeats the operate as it was written (IEC
-- 61850-8-1, CommandTermination)
abbrev pub termination_text : List ℕ → List ℕ → OperateData → List ℕ
termination_text domain item o =
    report_text (item_name domain item ∷ []) (datum (operate_datum (operate_view o)) no_data)

-- the report that a control has failed: why, and then the operate
abbrev pub failed_termination_text : LastApplError → List ℕ → List ℕ → OperateData → List ℕ
failed_termination_text e domain item o =
    report_text (failure_name ∷ item_name domain item ∷ [])
    (datum (failure_datum e) (datum (operate_datum (operate_view o)) no_data))

-- ---- IEC 61850-8-1 LastApplError, Oper: the texts of their parts

-- orCat and orIdent (IEC 61850-7-3, Originator)
abbrev pub origin_parts : Origin → List ℕ
origin_parts o = element (context 5) (integer_octets o.or_cat) ++ element (context 9) o.or_ident.now

-- the originator, a structure of the two (IEC 61850-7-3, Originator)
abbrev pub origin_text : Origin → List ℕ
origin_text o = element (constructed 2) (origin_parts o)

-- ctlVal, origin and ctlNum (IEC 61850-8-1, Oper)
abbrev pub operate_head : OperateData → List ℕ
operate_head o =
    element (context 3) (truth_octets o.control.ctl_val)
    ++ (origin_text o.control.origin
    ++ element (context 6) (integer_octets (pos o.control.ctl_num)))

-- T, Test and Check (IEC 61850-8-1, Oper)
abbrev pub operate_tail : OperateData → List ℕ
operate_tail o =
    element (context 17) o.control.t
    ++ (element (context 3) (truth_octets o.control.test)
    ++ element (context 4) (bit_string_octets (check_octet o.check ∷ []) 2))

-- CntrlObj and Error (IEC 61850-8-1, LastApplError)
abbrev pub failure_head : LastApplError → List ℕ
failure_head e = element (context 10) e.object.now ++ element (context 5) (integer_octets (pos 0))

-- Origin, ctlNum and AddCause (IEC 61850-8-1, LastApplError)
abbrev pub failure_tail : LastApplError → List ℕ
failure_tail e =
    origin_text e.origin ++ (element (context 6) (integer_octets (pos e.ctl_num))
    ++ element (context 5) (integer_octets (pos e.add_cause)))

-- the data of an operate (IEC 61850-8-1, Oper)
abbrev pub operate_text : OperateData → List ℕ
operate_text o = element (constructed 2) (operate_head o ++ operate_tail o)

-- the data of a refused control (IEC 61850-8-1, LastApplError)
abbrev pub failure_data : LastApplError → List ℕ
failure_data e = element (constructed 2) (failure_head e ++ failure_tail e)
