use Rattle.std.proofs.Common.{◌≡◌, ◌<◌, ℕ, [], length, Option, Some, Ok, Result, subst, ap, sym, ◌∙◌, arith}
use Rattle.std.proofs.lemmas.List.{nil_from_length}
use Rattle.std.proofs.lemmas.Bool.Decides.{nat_tests}
use Rattle.bay_device.specs.Device.{State, device_at, expiry_report}
use Rattle.bay_device.specs.Outcomes.{connection_at, slot_of}
use Rattle.bay_device.specs.StateView.{state_view}
use Rattle.bay_device.specs.Steps.{HandlesOctetsFrom, Receives, quiet_answer}
use Rattle.bay_device.specs.declared.event.Sent.{Sent}
use Rattle.bay_device.specs.declared.event.Step.{Step}
use Rattle.bay_device.specs.declared.fault.StepFault.{StepFault}
use Rattle.bay_device.proofs.RecvLemmas.{opened, received, received-none}
use Rattle.bay_device.proofs.device.Device.recv.Goals as goal

pub returns-then-is_empty : goal.returns-then-is_empty
returns-then-is_empty c =
    let now = c.args.now in
    let a = c.args.association in
    let octets = c.args.octets.now in
    let inside = c.self.inside in
    let cs = inside.connections.value in
    let s : State = state_view cs inside.state.value in
    let here : slot_of a ≡ Some c.in-Some.slot =
    sym c.association_slot.ensures.value ∙ c.in-Some.is in
    let state = opened _ (sym (rw c.deref.ensures at c.is_open.ensures) ∙ c.if-not-is_open.false) in
    let some : connection_at (slot_of a) s ≡ Some state.0 =
    ap (λ (o : Option ℕ). connection_at o s) here ∙ state.1 in
    let none : octets ≡ [] =
    nil_from_length octets (grind (arith, nat_tests, c.is_empty.ensures, c.if-is_empty.true)) in
    let told : Option Sent → Result Step StepFault = λ o. quiet_answer (Ok o) in
    let whole : Receives now a [] s (told (expiry_report now s)) (device_at now s) =
    received-none now a s state.0 some in
    let new = rw c.deref_mut.ensures.value at c.advance-ended.ensures.after cs in
    let answered : (let r : Result Step StepFault = Ok c.quiet.result in r)
    ≡ told (expiry_report now s) =
    ap (λ (x : Step). let r : Result Step StepFault = Ok x in r) c.quiet.ensures
    ∙ ap told (rw c.deref_mut.ensures.value at c.advance-ended.ensures.sent cs) in
    subst (λ (t : State). Receives now a octets t (Ok c.quiet.result)
    (state_view cs c.advance-ended.new.self)) c.self.view_is
    (subst (λ xs. Receives now a xs s (Ok c.quiet.result) (state_view cs c.advance-ended.new.self))
    (sym none)
    (subst (λ (r : Result Step StepFault). Receives now a [] s r
    (state_view cs c.advance-ended.new.self)) (sym answered)
    (subst (Receives now a [] s (told (expiry_report now s))) (sym new) whole)))

pub returns : goal.returns
returns c =
    let now = c.args.now in
    let a = c.args.association in
    let octets = c.args.octets.now in
    let inside = c.self.inside in
    let cs = inside.connections.value in
    let s : State = state_view cs inside.state.value in
    let here : slot_of a ≡ Some c.in-Some.slot =
    sym c.association_slot.ensures.value ∙ c.in-Some.is in
    let state = opened _ (sym (rw c.deref.ensures at c.is_open.ensures) ∙ c.if-not-is_open.false) in
    let some : connection_at (slot_of a) s ≡ Some state.0 =
    ap (λ (o : Option ℕ). connection_at o s) here ∙ state.1 in
    let lent : 0 < length octets =
    grind (arith, nat_tests, c.is_empty.ensures, c.if-is_empty.false) in
    let after = rw c.deref_mut.ensures.value at c.advance-ended.ensures.after cs in
    let still : connection_at (slot_of a) (state_view cs c.advance-ended.new.self) ≡ Some state.0 =
    ap (λ (o : Option ℕ). connection_at o (state_view cs c.advance-ended.new.self)) here
    ∙ state.1 in
    let heard = c.receive_octets.ensures state.0 still in
    let own : HandlesOctetsFrom now a octets (expiry_report now s) (device_at now s) state.0
    c.receive_octets.result
    c.receive_octets.new.self =
    subst (λ (o : Option Sent). HandlesOctetsFrom now a octets o (device_at now s) state.0
    c.receive_octets.result
    c.receive_octets.new.self) (rw c.deref_mut.ensures.value at c.advance-ended.ensures.sent cs)
    (subst (λ (t : State). HandlesOctetsFrom now a octets c.advance-ended.result t state.0
    c.receive_octets.result
    c.receive_octets.new.self) after heard) in
    subst (λ (t : State). Receives now a octets t (Ok c.receive_octets.result)
    c.receive_octets.new.self) c.self.view_is
    (received now a octets s c.receive_octets.new.self state.0 c.receive_octets.result some lent
    own)
