use Rattle.std.proofs.Common.{◌≡◌, ◌+◌, ◌++◌, ◌∷◌, [], List, take, sym, ap, ◌∙◌, subst}
use Rattle.std.proofs.lemmas.List.{take_more}
use Rattle.bay_audit_rules.specs.declared.rule.Rule.{Rule}
use Rattle.bay_audit.specs.Rules.{AreRightAnswers}
use Rattle.bay_audit.specs.declared.answer.RuleAnswer.{RuleAnswer}
use Rattle.bay_audit.proofs.audit.answer_each.Goals as goal
use Rattle.bay_audit.proofs.SearchLemmas.{right-more}

pub loop-rule-preserved : goal.loop-rule-preserved
loop-rule-preserved c =
    let g = c.args.program.now in
    let i = c.loop-rule.rule-index in
    let rules : take (i + 1) c.args.rules.now ≡ take i c.args.rules.now ++ c.rule-item.result ∷ [] =
    take_more c.args.rules.now i c.rule-item.result c.loop-rule-test.true
    ∙ ap (λ (r : Rule). take i c.args.rules.now ++ r ∷ []) (sym c.rule-item.is) in
    subst (λ (rs : List Rule). AreRightAnswers g rs c.push.new.self.items) (sym rules)
    (subst (λ (answers : List RuleAnswer). AreRightAnswers g
    (take i c.args.rules.now ++ c.rule-item.result ∷ []) answers)
    (sym c.in_ok-push.ensures.items)
    (right-more g (take i c.args.rules.now) c.loop-rule.answers.items c.rule-item.result
    c.in_ok-answer_rule.field-0 c.loop-rule.invariant c.in_ok-answer_rule.ensures.right))
