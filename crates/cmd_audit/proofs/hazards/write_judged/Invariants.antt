use Rattle.std.proofs.Common.{take}
use Rattle.cmd_audit.specs.Written.{PutsJudged}
use Rattle.cmd_audit.proofs.hazards.write_judged.Given as goal

abbrev pub invariant-loop-way : goal.invariant-loop-way
invariant-loop-way g l =
    PutsJudged g.W.Sink.contents g.W.Sink.does l.bay l.diagram l.program
    (take l.way-index l.ways) l.passed l.fn.writer l.writer
