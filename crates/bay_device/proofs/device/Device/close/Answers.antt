use Rattle.std.proofs.Common.{◌≡◌, ℕ, Option, Some, Ok, Result, subst, ap, sym, ◌∙◌}
use Rattle.bay_device.specs.Device.{State}
use Rattle.bay_device.specs.Outcomes.{Outcome, close_outcome, without_connection, connection_at, slot_of}
use Rattle.bay_device.specs.StateView.{state_view}
use Rattle.bay_device.specs.Steps.{IsOutcome, quiet_answer}
use Rattle.bay_device.specs.declared.event.Sent.{Sent}
use Rattle.bay_device.specs.declared.event.Step.{Step}
use Rattle.bay_device.specs.declared.fault.StepFault.{StepFault}
use Rattle.bay_device.proofs.RecvLemmas.{opened}
use Rattle.bay_device.proofs.device.Device.close.Goals as goal

pub returns : goal.returns
returns c =
    let now = c.args.now in
    let a = c.args.association in
    let inside = c.self.inside in
    let cs = inside.connections.value in
    let s : State = state_view cs inside.state.value in
    let here : slot_of a ≡ Some c.in-Some.slot =
    sym c.association_slot.ensures.value ∙ c.in-Some.is in
    let state = opened _ (sym (rw c.deref.ensures at c.is_open.ensures) ∙ c.if-not-is_open.false) in
    let some : connection_at (slot_of a) s ≡ Some state.0 =
    ap (λ (o : Option ℕ). connection_at o s) here ∙ state.1 in
    let whole = ap (close_outcome now a s) some in
    subst (λ (t : State). IsOutcome (close_outcome now a t (connection_at (slot_of a) t))
    (let r : Result Step StepFault = Ok c.quiet.result in r) c.drop_connection.new.self)
    c.self.view_is
    (record {
      answered =
          ap (λ (x : Step). let r : Result Step StepFault = Ok x in r) c.quiet.ensures
          ∙ ap (λ (o : Option Sent). quiet_answer (Ok o))
          (rw c.deref_mut.ensures.value at c.advance-ended.ensures.sent cs)
          ∙ sym (ap (λ (o : Outcome). o.answer) whole);
      left = c.drop_connection.ensures
          ∙ ap (without_connection a)
          (rw c.deref_mut.ensures.value at c.advance-ended.ensures.after cs)
          ∙ sym (ap (λ (o : Outcome). o.after) whole);
    })
