use Rattle.std.proofs.Common.{List, ◌∙◌, ap, ap₂, arith, subst}
use Rattle.std.specs.Prelude.{is_some}
use Rattle.bay_audit_rules.specs.declared.rule.ConditionItem.{ConditionItem}
use Rattle.bay_audit.specs.Rules.{IsMet, begun_demand, lasting_demand, release_demand_within}
use Rattle.bay_audit.proofs.until.cases_due.Goals as goal

pub returns : goal.returns
returns c given =
    let g = c.args.program.now in
    let n = c.args.timer in
    let condition = c.as_slice-condition.ensures in
    let lasts = c.in_ok-lasting_cases.ensures (ap is_some c.in-Some.is) in
    record {
      long = let some = c.if-timing-eq0.false in grind (arith, some);
      begun_met =
          subst (λ (is : List ConditionItem). IsMet g (begun_demand is n)) condition lasts.0;
      lasting_met =
          subst (λ (is : List ConditionItem). IsMet g (lasting_demand is n)) condition lasts.1;
      due_met = subst (IsMet g)
          (c.in_ok-demand.ensures
          ∙ ap₂ (release_demand_within c.args.rule.now) condition c.in_ok-limits.ensures)
          (c.in_ok-release_cases.ensures (ap is_some c.in-Some-2.is));
    }
