use Rattle.std.proofs.Common.{◌≡◌, Bool, List, ℕ, length, take, ap, ap₂, ◌∙◌, arith}
use Rattle.bay_assoc.specs.Receives.{association_terms}
use Rattle.bay_connection.specs.ConnectionStates.{Terms, terms_of}
use Rattle.bay_mms_services.specs.Answers.{pdu_answer}
use Rattle.bay_mms_services.specs.declared.answer.Command.{Command}
use Rattle.bay_mms_services.specs.declared.answer.ControlDecision.{ControlDecision}
use Rattle.bay_mms_services.specs.declared.client.ClientContext.{ClientContext}
use Rattle.bay_device.specs.Device.{State, bay_of}
use Rattle.bay_device.specs.Receiving.{StepState, answered_with, size_of}
use Rattle.bay_device.specs.ReceivingViews.{step_state}
use Rattle.bay_device.specs.declared.event.Sent.{Sent}
use Rattle.bay_device.specs.StateView.{state_view}
use Rattle.bay_device.proofs.MessageLemmas.{size-is}
use Rattle.bay_device.proofs.message.handle_pdu.Goals as goal

pub returns-in-Ok-clause-ok : goal.returns-in-Ok-clause-ok
returns-in-Ok-clause-ok c connections =
    let d = c.args.state.now in
    let a = c.args.association in
    let state = c.args.connection.now.state in
    let terms : Terms = terms_of state in
    let pdu = c.args.connection.now.pdu in
    let s : State = state_view connections d in
    let effects = c.answer.new.effects in
    ap (λ (t : State). step_state t effects) (c.store_effects.ensures connections)
    ∙ c.in-Ok.ensures.ok connections
    ∙ ap (λ (n : ℕ). answered_with a terms
    (pdu_answer (let x : ClientContext =
    record {
      association = a;
      size = n;
      now = c.args.now;
      lost = d.is_lost;
      fresh = c.is_fresh.result;
    } in x) pdu
    (bay_of s)) (step_state s c.args.effects.now))
    (size-is (association_terms state.phase) c.pdu_size.result c.requires c.pdu_size.ensures.size)
    ∙ ap (λ (f : Bool). answered_with a terms
    (pdu_answer (let x : ClientContext =
    record {
      association = a;
      size = size_of (association_terms state.phase);
      now = c.args.now;
      lost = d.is_lost;
      fresh = f;
    } in x) pdu (bay_of s)) (step_state s c.args.effects.now))
    (c.is_fresh.ensures connections)

pub returns-in-Err-clause-err : goal.returns-in-Err-clause-err
returns-in-Err-clause-err c connections =
    let s : State = state_view connections c.args.state.now in
    let effects = c.args.effects.now in
    let sent : c.len-sent.result ≡ length effects.sent.items = omega (arith, c.len-sent.ensures) in
    let commands : c.len-commands.result ≡ length effects.commands.items =
    omega (arith, c.len-commands.ensures) in
    let decisions : c.len-decisions.result ≡ length effects.decisions.items =
    omega (arith, c.len-decisions.ensures) in
    ap (λ (xs : List Sent). let x : StepState = record {
      state = s;
      sent = xs;
      commands = c.truncate-in-Err.new.self.items;
      decisions = c.truncate-in-Err-2.new.self.items;
    } in x)
    (c.truncate.ensures.items ∙ ap (λ n. take n c.answer.new.effects.sent.items) sent
    ∙ c.answer.ensures.sent)
    ∙ ap₂ (λ (xs : List Command) (ys : List ControlDecision). let x : StepState =
    record { state = s; sent = effects.sent.items; commands = xs; decisions = ys } in x)
    (c.truncate-in-Err.ensures.items ∙ ap (λ n. take n c.answer.new.effects.commands.items) commands
    ∙ c.answer.ensures.commands)
    (c.truncate-in-Err-2.ensures.items
    ∙ ap (λ n. take n c.answer.new.effects.decisions.items) decisions ∙ c.answer.ensures.decisions)
