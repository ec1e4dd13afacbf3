use Rattle.std.proofs.Common.{take}
use Rattle.bay_audit.specs.Rules.{AreRightAnswers}
use Rattle.bay_audit.proofs.audit.answer_each.Given as goal

abbrev pub invariant-loop-rule : goal.invariant-loop-rule
invariant-loop-rule l =
    AreRightAnswers l.program
    (take l.rule-index l.rules) l.answers.items
