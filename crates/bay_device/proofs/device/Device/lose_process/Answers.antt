use Rattle.std.proofs.Common.{Ok, Option, Result, subst, ap, ◌∙◌}
use Rattle.bay_device.specs.Device.{State}
use Rattle.bay_device.specs.Outcomes.{lost_outcome, quiet_step}
use Rattle.bay_device.specs.StateView.{state_view}
use Rattle.bay_device.specs.Steps.{IsOutcome}
use Rattle.bay_device.specs.declared.event.Sent.{Sent}
use Rattle.bay_device.specs.declared.event.Step.{Step}
use Rattle.bay_device.specs.declared.fault.StepFault.{StepFault}
use Rattle.bay_device.proofs.device.Device.lose_process.Goals as goal

pub returns : goal.returns
returns c =
    let now = c.args.now in
    let cs = c.self.inside.connections.value in
    subst (λ (t : State). IsOutcome (lost_outcome now t)
    (let r : Result Step StepFault = Ok c.quiet.result in r)
    (state_view cs c.lose_process-ended.new.self)) c.self.view_is (record {
      answered = ap (λ (x : Step). let r : Result Step StepFault = Ok x in r)
          (c.quiet.ensures ∙ ap (λ (o : Option Sent). quiet_step o)
          (rw c.deref_mut.ensures.value at c.lose_process-ended.ensures.sent cs));
      left = rw c.deref_mut.ensures.value at c.lose_process-ended.ensures.after cs;
    })
