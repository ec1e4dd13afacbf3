use Rattle.std.proofs.Common.{◌≡◌, ◌<◌, [], length, slice_get, Option, Ok, ap, sym, ◌∙◌, arith}
use Rattle.bay_device.specs.Device.{State, device_at, device_after_contact, expiry_report, reached_report_at, with_health}
use Rattle.bay_device.specs.Outcomes.{Outcome, contact_outcome, or_else}
use Rattle.bay_device.specs.StateView.{state_view}
use Rattle.bay_device.specs.Steps.{quiet_answer}
use Rattle.bay_device.specs.declared.event.Sent.{Sent}
use Rattle.bay_device.proofs.ProcessLemmas.{as-many, switch-there}
use Rattle.bay_device.proofs.state.DeviceState.contact.Goals as goal

pub apply_contact-report_reached-requires : goal.apply_contact-report_reached-requires
apply_contact-report_reached-requires c =
    let d = c.args.self.now in
    let many =
    as-many d.bay.switches c.advance-over.new.self.bay.switches
    (ap (λ (s : State). s.switches) (c.advance-over.ensures.after [])) in
    let lent = ap length c.as_slice.ensures in
    omega (arith, many, lent, c.if-switch-as_slice.false)

pub returns : goal.returns
returns c connections =
    let d = c.args.self.now in
    let k = c.args.switch in
    let s : State = state_view connections d in
    let lent = ap length c.as_slice.ensures in
    let within : k < length d.bay.switches = omega (arith, lent, c.if-switch-as_slice.false) in
    let here = switch-there d.bay.switches k within in
    let after = c.advance-over.ensures.after connections in
    let whole = ap (contact_outcome c.args.now k c.args.position s) here.1 in
    let own = ap (λ (t : State). slice_get t.switches k) after ∙ here.1 in
    let took = c.apply_contact-report_reached.ensures.after connections here.0 own in
    let told : c.or_else.result
    ≡ or_else (expiry_report c.args.now s)
    (reached_report_at k c.args.position (device_at c.args.now s)) =
    c.or_else.ensures
    ∙ ap (λ (o : Option Sent). or_else o c.apply_contact-report_reached.result)
    (c.advance-over.ensures.sent connections)
    ∙ ap (or_else (expiry_report c.args.now s))
    (c.apply_contact-report_reached.ensures.sent connections
    ∙ ap (reached_report_at k c.args.position) after)
    in
    record {
      answered =
          ap (λ (o : Option Sent). quiet_answer (Ok o)) told
          ∙ sym (ap (λ (o : Outcome). o.answer) whole);
      left = c.report_health.ensures.after connections
          ∙ ap (with_health c.args.now)
          (took ∙ ap (device_after_contact c.args.now k here.0 c.args.position) after)
          ∙ sym (ap (λ (o : Outcome). o.after) whole);
    }
