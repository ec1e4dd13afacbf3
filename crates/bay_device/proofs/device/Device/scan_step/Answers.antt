use Rattle.std.proofs.Common.{None, Ok, Result, Some, subst, ap, sym}
use Rattle.bay_device.specs.Meaning.{HaltsAt}
use Rattle.bay_device.specs.Outcomes.{event_outcome}
use Rattle.bay_device.specs.Steps.{IsOutcome}
use Rattle.bay_device.specs.declared.event.Event.TheVariants.{Scan}
use Rattle.bay_device.specs.declared.event.ScanResult.{ScanResult}
use Rattle.bay_device.specs.declared.event.Step.{Step}
use Rattle.bay_device.specs.declared.fault.StepFault.{StepFault}
use Rattle.bay_device.proofs.device.Device.scan_step.Goals as goal

-- with the number of steps
abbrev told : ScanResult → Step → Result Step StepFault
told scanned step = Ok (record step { scan = Some scanned.steps })

pub returns-clause-gives : goal.returns-clause-gives
returns-clause-gives c =
    let now = c.args.now in
    subst (λ (a : Result Step StepFault). IsOutcome (event_outcome None now Scan c.args.self.now)
    a c.do_scan-scanned.new.self) (sym (ap (told c.do_scan-scanned.result) c.quiet.ensures))
    c.do_scan-scanned.ensures.gives

pub returns-clause-halts : goal.returns-clause-halts
returns-clause-halts c =
    subst (λ (a : Result Step StepFault). HaltsAt c.args.now Scan c.args.self.now a
    c.do_scan-scanned.new.self) (sym (ap (told c.do_scan-scanned.result) c.quiet.ensures))
    c.do_scan-scanned.ensures.halts
