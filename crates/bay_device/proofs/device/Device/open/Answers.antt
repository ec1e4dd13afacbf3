use Rattle.std.proofs.Common.{◌≡◌, ℕ, List, Option, Some, None, Ok, Result, slice_set, subst, ap, sym, ◌∙◌}
use Rattle.bay_connection.specs.Feeding.{ConnectionData}
use Rattle.bay_connection.specs.ConnectionStates.{ConnectionState}
use Rattle.bay_device.specs.Device.{State, device_at}
use Rattle.bay_device.specs.Outcomes.{Outcome, connection_at, initial_connection, open_outcome, slot_of, with_connection}
use Rattle.bay_device.specs.StateView.{state_view}
use Rattle.bay_device.specs.Steps.{IsOutcome, quiet_answer}
use Rattle.bay_device.specs.declared.event.Sent.{Sent}
use Rattle.bay_device.specs.declared.event.Step.{Step}
use Rattle.bay_device.specs.declared.fault.StepFault.{StepFault}
use Rattle.bay_device.proofs.RecvLemmas.{not-opened}
use Rattle.bay_device.proofs.device.Device.open.Goals as goal

pub returns : goal.returns
returns c =
    let now = c.args.now in
    let a = c.args.association in
    let inside = c.self.inside in
    let cs = inside.connections.value in
    let slot = c.in-Some.slot in
    let s : State = state_view cs inside.state.value in
    let here : slot_of a ≡ Some slot = sym c.association_slot.ensures.value ∙ c.in-Some.is in
    let none : connection_at (slot_of a) s ≡ None =
    ap (λ (o : Option ℕ). connection_at o s) here
    ∙ not-opened _ (sym (rw c.deref.ensures at c.is_open.ensures) ∙ c.if-is_open.false) in
    let whole =
    ap (λ (o : Option ℕ). open_outcome now a s o (connection_at (slot_of a) s)) here
    ∙ ap (open_outcome now a s (Some slot)) none in
    let new : State = state_view c.put.new.self c.advance-ended.new.self in
    subst (λ (t : State). IsOutcome
    (open_outcome now a t (slot_of a) (connection_at (slot_of a) t))
    (let r : Result Step StepFault = Ok c.quiet.result in r) new) c.self.view_is
    (record {
      answered =
          ap (λ (x : Step). let r : Result Step StepFault = Ok x in r) c.quiet.ensures
          ∙ ap (λ (o : Option Sent). quiet_answer (Ok o))
          (rw c.deref_mut.ensures.value at c.advance-ended.ensures.sent cs)
          ∙ sym (ap (λ (o : Outcome). o.answer) whole);
      left = ap (λ (xs : List (Option ConnectionState)). state_view xs c.advance-ended.new.self)
          ((rw c.deref_mut-2.ensures.value at c.put.ensures)
          ∙ ap (λ (x : ConnectionData). slice_set cs slot (Some x.state))
          c.new-connection.ensures)
          ∙ ap (with_connection (Some slot) (Some (initial_connection a)))
          (rw c.deref_mut.ensures.value at c.advance-ended.ensures.after cs)
          ∙ sym (ap (λ (o : Option ℕ). with_connection o (Some (initial_connection a))
          (device_at now s))
          here)
          ∙ sym (ap (λ (o : Outcome). o.after) whole);
    })
