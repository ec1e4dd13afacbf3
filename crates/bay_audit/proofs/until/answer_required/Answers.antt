use Rattle.std.proofs.Common.{ap₂, subst, ◌∙◌}
use Rattle.bay_audit.specs.Rules.{IsAnswer, release_demand_within}
use Rattle.bay_audit.specs.declared.demand.Demand.{Demand}
use Rattle.bay_audit.proofs.RuleLemmas.{required-plain}
use Rattle.bay_audit.proofs.until.answer_required.Goals as goal

pub returns-in_default : goal.returns-in_default
returns-in_default c =
    required-plain c.args.program.now c.args.rule.now c.args.timing.now c.in_ok-found.found
    (subst (λ (d : Demand). IsAnswer c.args.program.now d c.in_ok-found.found)
    (c.in_ok-demand.ensures
    ∙ ap₂ (release_demand_within c.args.rule.now) c.as_slice.ensures
    (c.new-none.ensures ∙ c.new.ensures.items))
    c.in_ok-found.ensures)
