use Rattle.std.specs.Bool.{beq}
use Rattle.std.proofs.Common.{◌≡◌, ◌<◌, ◌||◌, not, [], length, slice_get, Option, Some, Ok, ap, sym, ◌∙◌, arith}
use Rattle.std.proofs.lemmas.Option.{slice_get_within}
use Rattle.bay_device.specs.Device.{State, with_health, with_input}
use Rattle.bay_device.specs.Outcomes.{Outcome, input_outcome}
use Rattle.bay_device.specs.StateView.{state_view}
use Rattle.bay_device.specs.Steps.{quiet_answer}
use Rattle.bay_device.specs.declared.event.Sent.{Sent}
use Rattle.bay_device.proofs.state.DeviceState.input.Goals as goal

pub apply_input-requires : goal.apply_input-requires
apply_input-requires c =
    let d = c.args.self.now in
    let here : slice_get d.input_values c.args.input ≡ Some c.in-Some.before =
    sym c.get.ensures ∙ c.in-Some.is in
    let lt : c.args.input < length d.input_values =
    slice_get_within d.input_values c.args.input c.in-Some.before here in
    let many : length c.advance-over.new.self.input_values ≡ length d.input_values =
    ap (λ (s : State). length s.input_values) (c.advance-over.ensures.after []) in
    omega (arith, lt, many)

pub returns : goal.returns
returns c connections =
    let d = c.args.self.now in
    let s : State = state_view connections d in
    let here : slice_get d.input_values c.args.input ≡ Some c.in-Some.before =
    sym c.get.ensures ∙ c.in-Some.is in
    let after = c.advance-over.ensures.after connections in
    let whole = ap (input_outcome c.args.now c.args.input c.args.value s) here in
    record {
      answered =
          ap (λ (o : Option Sent). quiet_answer (Ok o)) (c.advance-over.ensures.sent connections)
          ∙ sym (ap (λ (o : Outcome). o.answer) whole);
      left = c.report_health.ensures.after connections
          ∙ ap (λ (u : State). with_health c.args.now
          (record u { is_stale = u.is_stale || not (beq c.args.value c.in-Some.before) }))
          (c.apply_input.ensures.after connections
          ∙ ap (with_input c.args.now c.args.input c.args.value) after)
          ∙ sym (ap (λ (o : Outcome). o.after) whole);
    }
