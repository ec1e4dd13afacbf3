use Rattle.std.proofs.Common.{sym, ap, ◌∷◌, ◌∙◌}
use Rattle.bay_audit_rules.specs.declared.token.RuleToken.{RuleToken}
use Rattle.bay_audit_rules.proofs.ConditionLemmas.{more-step}
use Rattle.bay_audit_rules.proofs.condition.read_more_values.Goals as goal

pub loop-others-preserved : goal.loop-others-preserved
loop-others-preserved c =
    let took =
    more-step c.args.named c.loop-others.draft c.push_other.new.self c.loop-others.rest.now
    c.in-Some-Bar-default.others.now c.in-Some.behind.now c.in-Some.token.now
    c.in-Some-value_of.value
    (c.in-Some-Bar-default.ensures.cases.0
    ∙ ap (λ (t : RuleToken). t ∷ c.in-Some-Bar-default.others.now)
    c.in-Some-Bar-default.field-0-0-is)
    c.in-Some.ensures.cases.0 (sym c.value_of.ensures ∙ c.in-Some-value_of.is)
    c.in_ok-push_other.ensures in
    record {
      items = took.items ∙ c.loop-others.invariant.items;
      rest = took.rest ∙ c.loop-others.invariant.rest;
    }
