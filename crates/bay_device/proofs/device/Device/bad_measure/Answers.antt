use Rattle.std.proofs.Common.{Ok, Result, slice_get, subst, ap, sym, ◌∙◌}
use Rattle.std.proofs.lemmas.Result.{err_from_is_err_and}
use Rattle.bay_device.specs.Device.{State}
use Rattle.bay_device.specs.Outcomes.{bad_measure_outcome}
use Rattle.bay_device.specs.StateView.{state_view}
use Rattle.bay_device.specs.Steps.{IsOutcome, quiet_answer}
use Rattle.bay_device.specs.declared.event.Step.{Step}
use Rattle.bay_device.specs.declared.fault.StepFault.{StepFault}
use Rattle.bay_device.proofs.device.Device.bad_measure.Goals as goal

pub returns-in_err-ended : goal.returns-in_err-ended
returns-in_err-ended c =
    let inside = c.self.inside in
    let quiet = rw c.deref_mut.ensures.value at
    (c.bad_measure.ensures inside.connections.value) in
    let p = err_from_is_err_and c.from_residual.result c.from_residual.ensures.1 in
    subst (λ (t : State). IsOutcome
    (bad_measure_outcome c.args.now c.args.meter c.args.field t
    (slice_get t.meters c.args.meter)) c.from_residual.result
    (state_view inside.connections.value c.bad_measure.new.self)) c.self.view_is
    (record {
      answered = rw (p.1, p.2) (sym (ap quiet_answer c.in_err-ended.was) ∙ quiet.answered);
      left = quiet.left;
    })

pub returns : goal.returns
returns c =
    let inside = c.self.inside in
    let quiet = rw c.deref_mut.ensures.value at
    (c.bad_measure.ensures inside.connections.value) in
    subst (λ (t : State). IsOutcome
    (bad_measure_outcome c.args.now c.args.meter c.args.field t
    (slice_get t.meters c.args.meter)) (let r : Result Step StepFault = Ok c.quiet.result in r)
    (state_view inside.connections.value c.bad_measure.new.self)) c.self.view_is
    (record {
      answered =
          ap (λ (x : Step). let r : Result Step StepFault = Ok x in r) c.quiet.ensures
          ∙ sym (ap quiet_answer c.in_ok-ended.was) ∙ quiet.answered;
      left = quiet.left;
    })
