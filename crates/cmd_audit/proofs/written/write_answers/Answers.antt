use Rattle.std.proofs.Common.{◌∙◌, ◌+◌, ◌++◌, ◌∷◌, [], ◌&&◌, Bool, List, ℕ, ap, subst, sym, take}
use Rattle.std.proofs.lemmas.List.{take_more}
use Rattle.bay_audit_rules.specs.declared.rule.Rule.{Rule}
use Rattle.cmd_audit.specs.Text.{answer_text}
use Rattle.cmd_audit.specs.Written.{PutsAnswers}
use Rattle.cmd_audit.proofs.WrittenLemmas.{first-rules, more-rules, no-answers, when-err}
use Rattle.cmd_audit.proofs.written.write_answers.Goals as goal

pub loop-rule-init : goal.loop-rule-init
loop-rule-init g c = no-answers c.args.bay.now c.args.names.now c.args.program.now c.args.writer.now

pub returns-in_err-answer : goal.returns-in_err-answer
returns-in_err-answer g c =
    when-err _ c.from_residual.result c.from_residual.ensures.0
    (first-rules c.args.bay.now c.args.names.now c.args.program.now c.args.rules.now
    c.loop-rule.rule-index c.loop-rule.passed c.loop-rule.invariant)

pub returns-in_err-put_answer : goal.returns-in_err-put_answer
returns-in_err-put_answer g c =
    when-err _ c.from_residual-in_err-put_answer.result c.from_residual-in_err-put_answer.ensures.0
    (first-rules c.args.bay.now c.args.names.now c.args.program.now c.args.rules.now
    c.loop-rule.rule-index c.loop-rule.passed c.loop-rule.invariant)

pub returns-in_err-write_now : goal.returns-in_err-write_now
returns-in_err-write_now g c =
    when-err _ c.from_residual-in_err-write_now.result c.from_residual-in_err-write_now.ensures.0
    (first-rules c.args.bay.now c.args.names.now c.args.program.now c.args.rules.now
    (c.loop-rule.rule-index + 1) _
    (more-rules c.args.bay.now c.args.names.now c.args.program.now c.args.rules.now
    c.loop-rule.rule-index c.loop-rule.passed c.rule-item.result c.in_ok-answer.answer
    c.as_slice.result.now
    (take_more c.args.rules.now c.loop-rule.rule-index c.rule-item.result c.loop-rule-test.true
    ∙ ap (λ (r : Rule). take c.loop-rule.rule-index c.args.rules.now ++ r ∷ [])
    (sym c.rule-item.is))
    c.loop-rule.invariant c.in_ok-answer.ensures.right
    (c.as_slice.ensures.value ∙ c.in_ok-put_answer.ensures
    ∙ ap (λ (t : List ℕ). t
    ++ answer_text c.args.bay.now c.args.names.now (c.rule-item.result, c.in_ok-answer.answer))
    c.new-text.ensures.items)
    c.write_now.ensures))

pub loop-rule-preserved : goal.loop-rule-preserved
loop-rule-preserved g c =
    subst (λ (b : Bool). PutsAnswers g.W.Sink.contents g.W.Sink.does c.args.bay.now
    c.args.names.now c.args.program.now (take (c.loop-rule.rule-index + 1) c.args.rules.now) b
    c.args.writer.now c.write_now.new.writer)
    (sym (c.both-passed.ensures ∙ ap (λ (b : Bool). c.loop-rule.passed && b) c.is_passed.ensures))
    (more-rules c.args.bay.now c.args.names.now c.args.program.now c.args.rules.now
    c.loop-rule.rule-index c.loop-rule.passed c.rule-item.result c.in_ok-answer.answer
    c.as_slice.result.now
    (take_more c.args.rules.now c.loop-rule.rule-index c.rule-item.result c.loop-rule-test.true
    ∙ ap (λ (r : Rule). take c.loop-rule.rule-index c.args.rules.now ++ r ∷ [])
    (sym c.rule-item.is))
    c.loop-rule.invariant c.in_ok-answer.ensures.right
    (c.as_slice.ensures.value ∙ c.in_ok-put_answer.ensures
    ∙ ap (λ (t : List ℕ). t
    ++ answer_text c.args.bay.now c.args.names.now (c.rule-item.result, c.in_ok-answer.answer))
    c.new-text.ensures.items)
    c.write_now.ensures)
