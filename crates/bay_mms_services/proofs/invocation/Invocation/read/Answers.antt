use Rattle.std.proofs.Common.{◌≡◌, true, is_ok, map, ap, ap₂, sym, ◌∙◌}
use Rattle.bay_control.specs.Decisions.{State}
use Rattle.bay_mms.specs.RequestViews.{object_name_view}
use Rattle.bay_mms_services.specs.Answers.{one_pdu_answer}
use Rattle.bay_mms_services.specs.Bay.{with_controls}
use Rattle.bay_mms_services.specs.Reads.{initial_read, read_all}
use Rattle.bay_mms_services.specs.Views.{bay_of, controls_view}
use Rattle.bay_mms_services.proofs.ReplyLemmas.{done, read-fits, read-over, said-with, said_as}
use Rattle.bay_mms_services.proofs.invocation.Invocation.read.Goals as goal

pub returns-in-Some : goal.returns-in-Some
returns-in-Some c =
    let b = bay_of c.args.self.now in
    let r = read_all c.args.self.now.client b (map object_name_view c.args.names.now)
    (initial_read b) in
    let made : is_ok c.read_response-response.result ≡ true =
    rw c.in-Some.is at c.in_ok-pdu.ensures.made in
    let after : controls_view c.args.self.now.bay.now c.read_response-response.new.controls
    ≡ r.controls =
    rw (c.requires, c.new-decisions.ensures.items) at
    (done c.read_response-response.result _ made c.read_response-response.ensures.after) in
    let told : c.read_response-response.new.decisions.items ≡ r.decisions =
    rw (c.requires, c.new-decisions.ensures.items) at
    (done c.read_response-response.result _ made c.read_response-response.ensures.decisions) in
    said-with c.answer_with_decisions.result c.in-Some.pdu _ _ b _ c.answer_with_decisions.ensures
    (read-fits c.args.self.now.client c.args.self.now.id b r c.in-Some.pdu c.in_ok-pdu.field-0
    (c.in_ok-pdu.ensures.pdu c.args.self.now.client.size _
    (rw (c.requires, c.new-decisions.ensures.items) at c.read_response-response.ensures.response))
    c.in-Some.is
    ∙ ap₂ (one_pdu_answer c.in-Some.pdu) (sym told)
    (ap (λ (s : State). with_controls s b) (sym after)))

pub returns-in-None : goal.returns-in-None
returns-in-None c =
    let b = bay_of c.args.self.now in
    let r = read_all c.args.self.now.client b (map object_name_view c.args.names.now)
    (initial_read b) in
    rw c.duplicate.ensures (said_as c.answer_error.result _ b _ c.answer_error.ensures
    (read-over c.args.self.now.client c.args.self.now.id b r c.in_ok-pdu.field-0
    (c.in_ok-pdu.ensures.pdu c.args.self.now.client.size _
    (rw (c.requires, c.new-decisions.ensures.items) at c.read_response-response.ensures.response))
    c.in-None.is))
