use Rattle.std.proofs.Common.{◌≡◌, ◌<◌, ◌≤◌, ◌+◌, List, [], Option, length, drop, slice_get, Some, ap, sym, ◌∙◌, arith}
use Rattle.std.proofs.Math.ListN.{drop_of_length-le}
use Rattle.std.proofs.lemmas.List.{length-map}
use Rattle.bay_base.specs.declared.position.Dbpos.TheVariants.{Bad}
use Rattle.bay_connection.specs.ConnectionStates.{ConnectionState}
use Rattle.bay_process.specs.Layout.{switches_of}
use Rattle.bay_process.specs.declared.switch.BoundSwitch.{BoundSwitch}
use Rattle.bay_device.specs.Device.{State, device_after_contact, positions_lost}
use Rattle.bay_device.specs.StateView.{state_view}
use Rattle.bay_device.proofs.LostLemmas.{next-behind}
use Rattle.bay_device.proofs.ProcessLemmas.{as-many, switch-there}
use Rattle.bay_device.proofs.state.DeviceState.lose_positions.Goals as goal

pub apply_contact-requires : goal.apply_contact-requires
apply_contact-requires c =
    let many =
    as-many c.args.self.now.bay.switches c.loop-switch.self.bay.switches
    c.loop-switch.invariant.switches in
    let lent = ap length c.as_slice-switch-end.ensures in
    omega (arith, many, lent, c.loop-switch-test.true)

pub loop-switch-preserved : goal.loop-switch-preserved
loop-switch-preserved c =
    let d = c.args.self.now in
    let k = c.loop-switch.switch in
    let ss = switches_of d.bay.switches in
    let lent = ap length c.as_slice-switch-end.ensures in
    let within : k < length d.bay.switches = omega (arith, lent, c.loop-switch-test.true) in
    let here = switch-there d.bay.switches k within in
    let own : slice_get (switches_of c.loop-switch.self.bay.switches) k ≡ Some here.0 =
    ap (λ xs. slice_get xs k) c.loop-switch.invariant.switches ∙ here.1 in
    let took : (connections : List (Option ConnectionState))
    → state_view connections c.apply_contact.new.self
    ≡ device_after_contact c.args.now k here.0 Bad (state_view connections c.loop-switch.self) =
    λ connections. c.apply_contact.ensures.after connections here.0 own in
    record {
      switches = ap (λ (s : State). s.switches) (took []) ∙ c.loop-switch.invariant.switches;
      left = λ connections.
          ap (positions_lost c.args.now (k + 1) (drop (k + 1) ss)) (took connections)
          ∙ sym (ap (λ xs. positions_lost c.args.now k xs
          (state_view connections c.loop-switch.self)) (next-behind ss k here.0 here.1))
          ∙ c.loop-switch.invariant.left connections;
    }

pub returns : goal.returns
returns c connections =
    let d = c.args.self.now in
    let k = c.loop-switch.switch in
    let ss = switches_of d.bay.switches in
    let lent = ap length c.as_slice-switch-end.ensures in
    let sized = length-map d.bay.switches (λ (b : BoundSwitch). b.switch) in
    let all : length ss ≤ k = omega (arith, lent, sized, c.loop-switch-test.false) in
    sym (ap (λ xs. positions_lost c.args.now k xs (state_view connections c.loop-switch.self))
    (drop_of_length-le ss all))
    ∙ c.loop-switch.invariant.left connections
