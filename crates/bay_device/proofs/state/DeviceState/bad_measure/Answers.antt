use Rattle.std.proofs.Common.{◌≡◌, ◌<◌, List, length, slice_get, Option, Some, Ok, option_map, ap, sym, ◌∙◌, arith}
use Rattle.std.proofs.lemmas.Option.{slice_get-map}
use Rattle.bay_process.specs.Layout.{meters_of}
use Rattle.bay_process.specs.declared.meter.BoundMeter.{BoundMeter}
use Rattle.bay_device.specs.Device.{State, device_after_bad_measure, with_health}
use Rattle.bay_device.specs.Outcomes.{Outcome, bad_measure_outcome}
use Rattle.bay_device.specs.StateView.{state_view}
use Rattle.bay_device.specs.Steps.{quiet_answer}
use Rattle.bay_device.specs.declared.event.Sent.{Sent}
use Rattle.bay_device.proofs.ProcessLemmas.{there-is}
use Rattle.bay_device.proofs.state.DeviceState.bad_measure.Goals as goal

pub invalidate_field-requires : goal.invalidate_field-requires
invalidate_field-requires c =
    let lent = ap length c.as_slice.ensures in
    let many = ap (λ (ms : List BoundMeter). length ms) c.advance-over.ensures.meters in
    omega (arith, lent, many, c.if-meter-as_slice.false)

pub returns : goal.returns
returns c connections =
    let d = c.args.self.now in
    let k = c.args.meter in
    let s : State = state_view connections d in
    let lent = ap length c.as_slice.ensures in
    let within : k < length d.meters = omega (arith, lent, c.if-meter-as_slice.false) in
    let here = there-is d.meters k within in
    let meter : slice_get (meters_of d.meters) k ≡ Some here.0.id =
    slice_get-map (λ (b : BoundMeter). b.id) d.meters k
    ∙ ap (λ o. option_map (λ (b : BoundMeter). b.id) o) here.1 in
    let whole = ap (bad_measure_outcome c.args.now k c.args.field s) meter in
    record {
      answered =
          ap (λ (o : Option Sent). quiet_answer (Ok o)) (c.advance-over.ensures.sent connections)
          ∙ sym (ap (λ (o : Outcome). o.answer) whole);
      left = c.report_health.ensures.after connections
          ∙ ap (with_health c.args.now) (c.invalidate_field.ensures.after connections
          ∙ ap (device_after_bad_measure c.args.now k c.args.field)
          (c.advance-over.ensures.after connections))
          ∙ sym (ap (λ (o : Outcome). o.after) whole);
    }
