use Rattle.std.proofs.Common.{ℕ, Ok, Option, Result, subst, ap, ap₂, ◌∙◌}
use Rattle.bay_device.specs.Device.{State, device_at, run_result_at, after_scan}
use Rattle.bay_device.specs.Meaning.{Halts}
use Rattle.bay_device.specs.Outcomes.{scan_outcome, scan_step}
use Rattle.bay_device.specs.StateView.{state_view}
use Rattle.bay_device.specs.Steps.{IsOutcome}
use Rattle.bay_device.specs.declared.event.Sent.{Sent}
use Rattle.bay_device.specs.declared.event.Step.{Step}
use Rattle.bay_device.specs.declared.fault.StepFault.{StepFault}
use Rattle.bay_device.proofs.device.Device.do_scan.Goals as goal

abbrev told : Option Sent → ℕ → Result Step StepFault
told ended steps = Ok (scan_step (record { ended = ended; steps = steps }))

pub returns-clause-gives : goal.returns-clause-gives
returns-clause-gives c =
    let now = c.args.now in
    let inside = c.self.inside in
    let cs = inside.connections.value in
    let s : State = state_view cs inside.state.value in
    let new : State = state_view cs c.scan-steps.new.self in
    let after = rw c.deref_mut.ensures.value at c.advance-ended.ensures.after cs in
    subst (λ (t : State). IsOutcome (scan_outcome now t)
    (told c.advance-ended.result c.scan-steps.result) new) c.self.view_is (record {
      answered =
          ap₂ told (rw c.deref_mut.ensures.value at c.advance-ended.ensures.sent cs)
          ((rw c.deref_mut-2.ensures.value at c.scan-steps.ensures.steps cs)
          ∙ ap (λ (t : State). (run_result_at now t).steps) after);
      left = (rw c.deref_mut-2.ensures.value at c.scan-steps.ensures.after cs)
          ∙ ap (after_scan now) after;
    })

pub returns-clause-halts : goal.returns-clause-halts
returns-clause-halts c is on_time =
    let now = c.args.now in
    let cs = c.self.inside.connections.value in
    let new : State = state_view cs c.scan-steps.new.self in
    let h : Halts now (device_at now c.args.self.now) c.scan-steps.result new =
    subst (λ (t : State). Halts now (device_at now t) c.scan-steps.result new) c.self.view_is
    (subst (λ (t : State). Halts now t c.scan-steps.result new)
    (rw c.deref_mut.ensures.value at c.advance-ended.ensures.after cs)
    (rw c.deref_mut-2.ensures.value at c.scan-steps.ensures.halts cs)) in
    record { halts = h.halts; within = h.within }
