use Rattle.std.proofs.Common.{ap, subst, ◌∙◌}
use Rattle.std.specs.Prelude.{is_some}
use Rattle.bay_audit.specs.Rules.{IsMet, running_demand}
use Rattle.bay_audit.specs.declared.demand.Goal.TheVariants.{Begun, Lasting}
use Rattle.bay_audit.proofs.until.cases_lasting.Goals as goal

pub returns : goal.returns
returns c given =
    let g = c.args.program.now in
    let condition = c.args.condition.now in
    let n = c.args.timer in (
      subst (IsMet g)
          (c.in_ok-demand.ensures
          ∙ ap (running_demand condition (Begun n)) (c.new-none.ensures ∙ c.new.ensures.items))
          (c.in_ok-begun_cases.ensures (ap is_some c.in-Some.is)),
      subst (IsMet g)
          (c.in_ok-demand-2.ensures
          ∙ ap (running_demand condition (Lasting n)) c.in_ok-limits.ensures)
          (c.in_ok-lasting_cases.ensures (ap is_some c.in-Some-2.is)),
    )
