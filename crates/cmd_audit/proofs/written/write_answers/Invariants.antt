use Rattle.std.proofs.Common.{take}
use Rattle.cmd_audit.specs.Written.{PutsAnswers}
use Rattle.cmd_audit.proofs.written.write_answers.Given as goal

abbrev pub invariant-loop-rule : goal.invariant-loop-rule
invariant-loop-rule g l =
    PutsAnswers g.W.Sink.contents g.W.Sink.does l.bay l.names l.program
    (take l.rule-index l.rules) l.passed l.fn.writer l.writer
