use Rattle.std.proofs.Common.{inl, ap, subst, ◌∙◌}
use Rattle.bay_audit.specs.Rules.{IsAnswer, necessary_demand}
use Rattle.bay_audit.specs.declared.answer.RuleAnswer.TheVariants.{Broken, Holds}
use Rattle.bay_audit.specs.declared.demand.Demand.{Demand}
use Rattle.bay_audit.proofs.until.answer_forbidden.Goals as goal

pub answer_by_bearing_timer-requires : goal.answer_by_bearing_timer-requires
answer_by_bearing_timer-requires c =
    let g = c.args.program.now in
    subst (λ (d : Demand). IsAnswer g d (Holds c.in-Holds.cases))
    (c.in_ok-demand.ensures ∙ ap (necessary_demand c.args.rule.now) c.as_slice.ensures)
    (subst (IsAnswer g c.in_ok-demand.demand) c.in-Holds.is c.in_ok-cases.ensures)

pub returns-in-Broken : goal.returns-in-Broken
returns-in-Broken c =
    let g = c.args.program.now in
    inl
    (subst (λ (d : Demand). IsAnswer g d (Broken c.in-Broken.case))
    (c.in_ok-demand.ensures ∙ ap (necessary_demand c.args.rule.now) c.as_slice.ensures)
    (subst (IsAnswer g c.in_ok-demand.demand) c.in-Broken.is c.in_ok-cases.ensures))
