use Rattle.std.proofs.Common.{◌≡◌, ◌<◌, ◌≤◌, ◌+◌, List, length, drop, slice_get, Some, option_map, ap, sym, ◌∙◌, arith}
use Rattle.std.proofs.Math.ListN.{drop_of_length-le}
use Rattle.std.proofs.lemmas.List.{length-map}
use Rattle.std.proofs.lemmas.Option.{slice_get-map}
use Rattle.bay_process.specs.Layout.{meters_of}
use Rattle.bay_process.specs.declared.meter.BoundMeter.{BoundMeter}
use Rattle.bay_device.specs.Device.{measures_lost}
use Rattle.bay_device.specs.StateView.{state_view}
use Rattle.bay_device.proofs.LostLemmas.{next-behind}
use Rattle.bay_device.proofs.ProcessLemmas.{there-is}
use Rattle.bay_device.proofs.state.DeviceState.lose_meters.Goals as goal

pub lose_meter-requires : goal.lose_meter-requires
lose_meter-requires c =
    let many = ap (λ (ms : List BoundMeter). length ms) c.loop-meter.invariant.meters in
    let lent = ap length c.as_slice-meter-end.ensures in
    omega (arith, many, lent, c.loop-meter-test.true)

pub loop-meter-preserved : goal.loop-meter-preserved
loop-meter-preserved c =
    let d = c.args.self.now in
    let k = c.loop-meter.meter in
    let lent = ap length c.as_slice-meter-end.ensures in
    let within : k < length d.meters = omega (arith, lent, c.loop-meter-test.true) in
    let here = there-is d.meters k within in
    let own : slice_get (meters_of d.meters) k ≡ Some here.0.id =
    slice_get-map (λ (b : BoundMeter). b.id) d.meters k
    ∙ ap (λ o. option_map (λ (b : BoundMeter). b.id) o) here.1 in
    record {
      meters = c.lose_meter.ensures.meters ∙ c.loop-meter.invariant.meters;
      left = λ connections.
          ap (measures_lost c.args.now (k + 1) (drop (k + 1) (meters_of d.meters)))
          (c.lose_meter.ensures.after connections)
          ∙ sym (ap (λ xs. measures_lost c.args.now k xs
          (state_view connections c.loop-meter.self))
          (next-behind (meters_of d.meters) k here.0.id own))
          ∙ c.loop-meter.invariant.left connections;
    }

pub returns : goal.returns
returns c connections =
    let d = c.args.self.now in
    let k = c.loop-meter.meter in
    let lent = ap length c.as_slice-meter-end.ensures in
    let sized = length-map d.meters (λ (b : BoundMeter). b.id) in
    let all : length (meters_of d.meters) ≤ k =
    omega (arith, lent, sized, c.loop-meter-test.false) in
    sym (ap (λ xs. measures_lost c.args.now k xs (state_view connections c.loop-meter.self))
    (drop_of_length-le (meters_of d.meters) all))
    ∙ c.loop-meter.invariant.left connections
