use Rattle.std.proofs.Common.{sym, ap, ◌∙◌}
use Rattle.bay_audit_rules.specs.Facts.{◌⊕◌, negation}
use Rattle.bay_audit_rules.specs.Running.{more_at}
use Rattle.bay_audit_rules.proofs.ConditionLemmas.{values-step}
use Rattle.bay_audit_rules.proofs.condition.read_values.Goals as goal

pub returns : goal.returns
returns c =
    let more = more_at c.args.named c.in-Some.others.now in
    values-step c.args.named c.args.negated c.args.draft.now c.push_negation.new.self
    c.args.tokens.now
    c.in-Some.others.now c.in_ok-rest.rest c.in-Some.token.now c.in-Some-value_of.value
    c.in-Some.ensures.cases.0 (sym c.value_of.ensures ∙ c.in-Some-value_of.is)
    (c.in_ok-push_negation.ensures
    ∙ ap (λ x. x ⊕ negation c.args.negated)
    (c.in_ok-rest.ensures.items ∙ ap (λ x. x ⊕ more.0) c.in_ok-push_value.ensures))
    c.in_ok-rest.ensures.rest
