use Rattle.std.proofs.Common.{length, ap, ap₂, ◌∙◌}
use Rattle.bay_audit.specs.Cases.{lost_case}
use Rattle.bay_audit.proofs.ReleaseLemmas.{lost-refused, lost-released}
use Rattle.bay_audit.proofs.release.lost_release.Goals as goal

pub returns-in-Obeyed : goal.returns-in-Obeyed
returns-in-Obeyed c =
    lost-released
    c.args.program.now
    c.args.switch c.args.operation c.args.bay.now c.in_ok-demand.demand c.in_ok-case.case
    c.in_ok-decision.decision c.in_ok-demand.ensures
    (c.in_ok-case.ensures ∙ ap₂ lost_case (ap length c.as_slice.ensures)
    (ap length c.as_slice-2.ensures))
    c.in_ok-decision.ensures c.in-Obeyed.is

pub returns-in-Missed : goal.returns-in-Missed
returns-in-Missed c =
    lost-refused
    c.args.program.now
    c.args.switch c.args.operation c.args.bay.now c.in_ok-demand.demand c.in_ok-case.case
    c.in_ok-decision.decision c.in_ok-demand.ensures
    (c.in_ok-case.ensures ∙ ap₂ lost_case (ap length c.as_slice.ensures)
    (ap length c.as_slice-2.ensures))
    c.in_ok-decision.ensures c.in-Missed.is
