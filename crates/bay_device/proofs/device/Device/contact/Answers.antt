use Rattle.std.proofs.Common.{None, ap, sym}
use Rattle.std.proofs.lemmas.Result.{err_from_is_err_and}
use Rattle.bay_device.specs.Outcomes.{Outcome}
use Rattle.bay_device.specs.declared.event.Event.TheVariants.{Contact}
use Rattle.bay_device.proofs.device.Device.contact.Goals as goal

pub returns-in_err-admit : goal.returns-in_err-admit
returns-in_err-admit c =
    let p = err_from_is_err_and c.from_residual.result c.from_residual.ensures.1 in
    let refused =
    c.in_err-admit.ensures.outcome None (Contact c.args.switch c.args.position) in
    record {
      answered = rw (p.1, p.2) (sym (ap (λ (o : Outcome). o.answer) refused));
      left = sym (ap (λ (o : Outcome). o.after) refused);
    }
