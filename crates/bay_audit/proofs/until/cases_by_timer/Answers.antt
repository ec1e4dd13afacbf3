use Rattle.std.proofs.Common.{ap, subst, ◌∙◌}
use Rattle.std.specs.Prelude.{is_some}
use Rattle.bay_audit.specs.Rules.{IsMet, idle_timer_demand}
use Rattle.bay_audit.proofs.until.cases_by_timer.Goals as goal

pub returns : goal.returns
returns c given =
    let g = c.args.program.now in (
      subst (IsMet g) c.in_ok-demand.ensures
          (c.in_ok-late_demand.ensures (ap is_some c.in-Some.is)),
      subst (IsMet g)
          (c.in_ok-demand-2.ensures
          ∙ ap (λ condition. idle_timer_demand condition c.args.timer) c.as_slice.ensures)
          (c.in_ok-idle_demand.ensures (ap is_some c.in-Some-2.is)),
    )
