use Rattle.std.proofs.Common.{◌++◌, map, ap, ◌∙◌}
use Rattle.bay_control.specs.Decisions.{state_of}
use Rattle.bay_connection.specs.ConnectionStates.{Terms, octets_to_send, terms_of}
use Rattle.bay_mms_services.specs.Answers.{AnswerData, pdu_answer}
use Rattle.bay_mms_services.specs.Bay.{with_controls}
use Rattle.bay_device.specs.Device.{State, bay_of}
use Rattle.bay_device.specs.Receiving.{pending_if, later_pending, sent_on}
use Rattle.bay_device.specs.StateView.{state_view}
use Rattle.bay_device.proofs.MessageLemmas.{all-ok, answered-done}
use Rattle.bay_device.proofs.message.answer.Goals as goal

pub returns-clause-ok : goal.returns-clause-ok
returns-clause-ok c =
    let d = c.args.state.now in
    let a = c.args.client.association in
    let terms : Terms = terms_of c.args.connection.now.state in
    let answered-as = rw c.pdu.ensures at c.in_ok-answer.ensures.ok in
    let did = c.record_answer.ensures in
    all-ok c.record_answer.result _ _ _ _ _ did.pending did.sent did.commands did.decisions
    (λ pending is sends does decides connections.
    let s : State = state_view connections d in
    let x : AnswerData = pdu_answer c.args.client c.args.connection.now.pdu (bay_of s) in
    answered-done a terms x s c.args.effects.now.sent.items c.record_answer.new.effects.sent.items
    c.args.effects.now.commands.items c.record_answer.new.effects.commands.items
    c.args.effects.now.decisions.items c.record_answer.new.effects.decisions.items
    (with_controls (state_of s.controls.controls c.answer.new.controls) (bay_of s))
    (later_pending s.pending pending)
    answered-as.left (ap (later_pending d.pending)
    (is ∙ ap (pending_if a terms) answered-as.termination))
    (sends ∙ ap (λ pdus. c.args.effects.now.sent.items
    ++ map (λ pdu. sent_on a (octets_to_send terms pdu)) pdus) answered-as.sent)
    (does ∙ ap (λ cs. c.args.effects.now.commands.items ++ cs) answered-as.commands)
    (decides ∙ ap (λ ds. c.args.effects.now.decisions.items ++ ds) answered-as.decisions))
