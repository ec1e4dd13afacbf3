use Rattle.std.proofs.Common.{◌≡◌, ℕ, List, Option, Some, None, slice_get, unwrap_or, refl, subst, ap, sym, ◌∙◌}
use Rattle.std.specs.Result.{result_err}
use Rattle.bay_connection.specs.ConnectionStates.{ConnectionState, connection_after}
use Rattle.bay_device.specs.Connections.{state_without_pdu}
use Rattle.bay_device.specs.Device.{State}
use Rattle.bay_device.specs.Receiving.{StepState}
use Rattle.bay_device.specs.ReceivingViews.{ResultsIn, step_state}
use Rattle.bay_device.specs.Outcomes.{closed_by, connection_at, step_start, slot_of, recv_after}
use Rattle.bay_device.specs.StateView.{state_view}
use Rattle.bay_device.specs.Steps.{HandlesOctetsFrom}
use Rattle.bay_device.specs.declared.event.Step.{Step}
use Rattle.bay_device.specs.declared.event.Why.{Why}
use Rattle.bay_device.proofs.RecvLemmas.{after-taken, ended-at, heard-from, left-if, same-talk}
use Rattle.bay_device.proofs.device.Device.receive_octets.Goals as goal

pub returns : goal.returns
returns c state is_open =
    let now = c.args.now in
    let a = c.args.association in
    let slot = c.args.slot in
    let octets = c.args.octets.now in
    let inside = c.self.inside in
    let cs = inside.connections.value in
    let s : State = state_view cs inside.state.value in
    let t : State = state_view cs c.handle_octets.new.state in
    let own = c.in-Some.connection.state in
    let why = result_err c.handle_octets.result in
    let begun : step_state s c.new-effects.result ≡ step_start s =
    rw (c.new-effects.ensures.sent, c.new-effects.ensures.commands, c.new-effects.ensures.decisions)
    refl in
    let here : connection_at (slot_of a) s ≡ Some state =
    ap (connection_at (slot_of a)) c.self.view_is ∙ is_open in
    let at : connection_at (slot_of a) s ≡ unwrap_or (slice_get cs slot) None =
    ap (λ (o : Option ℕ). connection_at o s) c.requires.here in
    let same : own ≡ state =
    same-talk own state (connection_at (slot_of a) s)
    (sym (ap state_without_pdu c.in-Some.is)
    ∙ (rw c.deref_mut.ensures.value at c.take.ensures.value)
    ∙ sym at) here in
    let comes : ResultsIn now a own octets (step_state s c.new-effects.result) why
    (step_state t c.handle_octets.new.effects) =
    ended-at c.handle_octets.result
    (λ (xs : List (Option ConnectionState)) (w : Option Why). ResultsIn now a own octets
    (step_state (state_view xs inside.state.value) c.new-effects.result) w
    (step_state (state_view xs c.handle_octets.new.state) c.handle_octets.new.effects))
    (rw c.deref_mut-2.ensures.value at c.handle_octets.ensures.ok)
    (rw c.deref_mut-2.ensures.value at c.handle_octets.ensures.err) cs in
    let wanted : ResultsIn now a state octets (step_start s) why
    (step_state t c.handle_octets.new.effects) =
    subst (λ (u : ConnectionState). ResultsIn now a u octets (step_start s) why
    (step_state t c.handle_octets.new.effects))
    same
    (subst (λ (d : StepState). ResultsIn now a own octets d why
    (step_state t c.handle_octets.new.effects)) begun
    comes)
    in
    let left : c.finish.new.self ≡ recv_after a (connection_after state octets) t why =
    c.finish.ensures
    ∙ ap (λ (w : Option Why). recv_after a c.handle_octets.new.connection.state
    (state_view c.take.new.self c.handle_octets.new.state) w) c.err-why.ensures.value
    ∙ ap (λ (xs : List (Option ConnectionState)). recv_after a c.handle_octets.new.connection.state
    (state_view xs c.handle_octets.new.state) why)
    (rw c.deref_mut.ensures.value at c.take.ensures.rest)
    ∙ after-taken a slot t c.handle_octets.new.connection.state why c.requires.here
    ∙ left-if c.handle_octets.result a t c.handle_octets.new.connection.state
    (connection_after own octets)
    c.handle_octets.ensures.left
    ∙ ap (λ (u : ConnectionState). recv_after a (connection_after u octets) t why) same in
    let whole =
    heard-from now a octets c.args.ended s c.finish.new.self state why
    (step_state t c.handle_octets.new.effects) wanted left in
    let step : Step =
    record {
      ended = c.args.ended;
      sent = c.handle_octets.new.effects.sent.items;
      commands = c.handle_octets.new.effects.commands.items;
      decisions = c.handle_octets.new.effects.decisions.items;
      closed = closed_by a why;
      scan = None;
    } in
    rw (
      c.new.ensures,
      c.new-2.ensures,
      c.new-3.ensures,
      c.closed_by.ensures,
      c.err-why.ensures.value,
    )
    (subst (λ (u : State). HandlesOctetsFrom now a octets c.args.ended u state step
    c.finish.new.self)
    c.self.view_is whole)
