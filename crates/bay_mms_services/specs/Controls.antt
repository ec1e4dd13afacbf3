-- A client's request on a control, the record of the decision, and the reports (IEC 61850-7-2, 20;
-- IEC 61850-8-1: LastApplError and CommandTermination).
use Rattle.std.specs.Prelude.{ℕ, pos, ◌≤◌, IfSome, Bool, true, false, List, [], ◌∷◌, ◌++◌, codes, length, slice_get, Option, Some, None, option_to_list, Result, Ok, Err, if◌then◌else◌, unsigned_abs}
use Rattle.bay_tree.specs.Rows.{leaf_named}
use Rattle.bay_tree.specs.declared.leaf.Leaf.{Leaf}
use Rattle.bay_tree.specs.declared.leaf.Leaf.TheVariants as leaf
use Rattle.bay_base.specs.declared.position.Dbpos.{Dbpos}
use Rattle.bay_base.specs.declared.position.Dbpos.TheVariants.{Intermediate}
use Rattle.bay_nodes.specs.Names.{opening_names_at, closing_names_at}
use Rattle.bay_base.specs.declared.switch.Operation.{Operation}
use Rattle.bay_base.specs.declared.switch.Operation.TheVariants.{Open, Close}
use Rattle.bay_process.specs.Values.{is_truth, position_leaf}
use Rattle.bay_control.specs.Requests.{control_of, is_enhanced, is_local}
use Rattle.bay_control.specs.Causes as cause
use Rattle.bay_control.specs.declared.cause.AddCause.{AddCause}
use Rattle.bay_control.specs.declared.cause.AddCause.TheVariants.{TimeLimitOver}
use Rattle.bay_control.specs.declared.request.Ask.{Ask}
use Rattle.bay_control.specs.declared.request.Originator as control
use Rattle.bay_control.specs.declared.request.View.{View}
use Rattle.bay_mms.specs.Data.{Datum, structure, text, integer, unsigned, no_data, datum}
use Rattle.bay_mms.specs.Controls.{Control, Operate, Origin, origin_datum, operate_datum}
use Rattle.bay_mms.specs.Reports.{report_text, failure_name, item_name}
use Rattle.bay_mms_initiate.specs.Sizes.{longest_pdu}
use Rattle.bay_mms_services.specs.Bay.{Bay}
use Rattle.bay_mms_services.specs.Replies.{pdu_within_size}
use Rattle.bay_mms_services.specs.declared.answer.ControlDecision.{ControlDecision}
use Rattle.bay_mms_services.specs.declared.answer.TerminationReports.{TerminationReports}
use Rattle.bay_mms_services.specs.declared.client.ClientContext.{ClientContext}
use Rattle.bay_mms_services.specs.declared.target.ControlPart.{ControlPart}
use Rattle.bay_mms_services.specs.declared.target.ControlPart.TheVariants.{Select}

-- ---- views

-- the position in a row
abbrev pub dbpos_of : Option Leaf → Dbpos
dbpos_of (Some (leaf.Dbpos position)) = position
dbpos_of other = Intermediate

-- the view of the switch at index k: its position and its interlocking values, from the rows, and
-- whether its key is at local, from the inputs
abbrev pub decision_view : ClientContext → ℕ → Bay → View
decision_view c k b = record {
  pos = dbpos_of (position_leaf b.switches b.rows k (slice_get b.switches k));
  lost = c.lost;
  local = is_local (control_of b.controls.controls k).key b.inputs;
  fresh = c.fresh;
  ena_opn = is_truth true (leaf_named (opening_names_at k).value b.rows);
  ena_cls = is_truth true (leaf_named (closing_names_at k).value b.rows);
}

-- the operation that a ctlVal requests
abbrev pub operation_of : Bool → Operation
operation_of true = Close
operation_of false = Open

-- the originator of a request
abbrev pub origin_of : Origin → control.Originator
origin_of o = record { cat = o.or_cat; ident = o.or_ident }

-- the request of a write to SBOw or Oper
abbrev pub control_request_of : Operate → Ask
control_request_of o =
    record {
      operation = operation_of o.control.ctl_val;
      test = o.control.test;
      synchrocheck = o.check.synchrocheck;
      origin = origin_of o.control.origin;
    }

-- ---- records of decisions

-- the record of a decision on a write to a part of a control
abbrev pub written_decision : ClientContext → ℕ → ControlPart → Control → Result (Unit {0}) AddCause
    → ControlDecision
written_decision c k part control answer = record {
  association = c.association;
  switch = k;
  part = part;
  request = Some (record {
    operation = operation_of control.ctl_val;
    origin = origin_of control.origin;
    ctl_num = unsigned_abs control.ctl_num;
  });
  answer = answer;
}

-- the record of a decision on a select by a read of SBO
abbrev pub read_decision : ClientContext → ℕ → Result (Unit {0}) AddCause → ControlDecision
read_decision c k answer = record {
  association = c.association;
  switch = k;
  part = Select;
  request = None;
  answer = answer;
}

-- ---- reports

-- the object reference of an item of the bay's domain (CntrlObj)
abbrev pub object_of : Bay → List ℕ → List ℕ
object_of b item = b.domain ++ (codes "/" ++ item)

-- the data of a LastApplError: CntrlObj, Error, which is 0, Origin, ctlNum and AddCause
abbrev pub error_datum : List ℕ → Control → AddCause → Datum
error_datum object control why =
    structure (datum (text object)
    (datum (integer (pos 0))
    (datum (origin_datum control.origin)
    (datum (unsigned control.ctl_num) (datum (integer (pos (cause.code_of why))) no_data)))))

-- the report of a refused control (LastApplError)
abbrev pub refusal_report : List ℕ → Control → AddCause → List ℕ
refusal_report object control why =
    report_text (failure_name ∷ []) (datum (error_datum object control why) no_data)

-- the report that the switch reached the requested position (the positive CommandTermination), and
-- the report that it did not reach it in time (the negative one)
abbrev pub termination_report : List ℕ → List ℕ → Operate → List ℕ
termination_report domain item o =
    report_text (item_name domain item ∷ []) (datum (operate_datum o) no_data)

-- the report that the switch did not reach the requested position in time (the negative
-- CommandTermination)
abbrev pub failed_report : List ℕ → List ℕ → List ℕ → Operate → List ℕ
failed_report object domain item o =
    report_text (failure_name ∷ item_name domain item ∷ [])
    (datum (error_datum object o.control TimeLimitOver) (datum (operate_datum o) no_data))

-- with enhanced security a client receives reports of refusals and of the end of an operate
abbrev pub has_reports : Bay → ℕ → Bool
has_reports b k = is_enhanced (control_of b.controls.controls k).model

-- the report of a refused control; none if the control is accepted, if the switch has no enhanced
-- security, or if the report does not fit
abbrev pub refusal_reports : ClientContext → ℕ → List ℕ → Control → Bay → Result (Unit {0}) AddCause
    → List (List ℕ)
refusal_reports c k item control b (Ok done) = []
refusal_reports c k item control b (Err why) =
    if has_reports b k then option_to_list
    (pdu_within_size c.size (refusal_report (object_of b item) control why)) else []

-- the two reports for the end of an operate, each if it fits
abbrev pub termination_reports : ClientContext → List ℕ → Operate → Bay → TerminationReports
termination_reports c item o b = record {
  positive = pdu_within_size c.size (termination_report b.domain item o);
  negative = pdu_within_size c.size (failed_report (object_of b item) b.domain item o);
}

-- the reports for the end of an accepted operate, if the switch has enhanced security
abbrev pub accepted_termination : ClientContext → ℕ → List ℕ → Operate → Bay
    → Result (Unit {0}) AddCause
    → Option TerminationReports
accepted_termination c k item o b (Ok done) =
    if has_reports b k then Some (termination_reports c item o b) else None
accepted_termination c k item o b (Err why) = None

-- The reports for the end of an operate have at most 65,000 octets, like every PDU of MMS that is
-- sent.
pub record AreShort (e : TerminationReports) : Type 0 where
  pub positive : IfSome e.positive (λ pdu. length pdu ≤ longest_pdu)
  pub negative : IfSome e.negative (λ pdu. length pdu ≤ longest_pdu)

-- The reports for the end of an operate, if there are any, have at most 65,000 octets each.
abbrev pub IsShort : Option TerminationReports → Type 0
IsShort termination = IfSome termination AreShort
