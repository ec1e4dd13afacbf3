use Rattle.std.proofs.Common.{refl, sym, ◌∙◌}
use Rattle.bay_process_port.proofs.AttendLemmas.{attends-closed, attends-dismissed, attends-kept, attends-leaving}
use Rattle.bay_process_port.proofs.BoundLemmas.{emptied-same}
use Rattle.bay_process_port.specs.declared.port.Presence.TheVariants.{LossPending}
use Rattle.bay_process_port.proofs.poll.poll.Goals as goal

pub returns-in-LossPending : goal.returns-in-LossPending
returns-in-LossPending g c =
    attends-leaving _ _ _ _ c.args.link.now _ _ (sym c.presence.ensures ∙ c.in-LossPending.is) refl

pub returns-in-Ok : goal.returns-in-Ok
returns-in-Ok g c =
    attends-kept _ _ _ _ _ _ _ (sym c.presence.ensures ∙ c.in-Present.is) c.in-Ok.ensures.does

pub returns-in-Err : goal.returns-in-Err
returns-in-Err g c =
    let same = c.set_presence.ensures ∙ emptied-same LossPending _ _ c.in-Err.ensures.bound in
    rw same
    (attends-closed _ _ _ _ _ _ _ _ _ (sym c.presence.ensures ∙ c.in-Present.is)
    c.in-Err.ensures.does c.close.ensures)

pub returns-in-Dismissed : goal.returns-in-Dismissed
returns-in-Dismissed g c =
    attends-dismissed _ _ _ _ c.args.link.now _ _ _ _ _
    (sym c.presence.ensures ∙ c.in-Dismissed.is) c.close_dismissed.ensures
