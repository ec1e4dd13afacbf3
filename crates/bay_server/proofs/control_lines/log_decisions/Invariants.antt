use Rattle.bay_server.specs.LogLines.{decision_line}
use Rattle.bay_server.proofs.LogLemmas.{LogsUpTo}
use Rattle.bay_server.proofs.control_lines.log_decisions.Given as goal

abbrev pub invariant-loop-decision : goal.invariant-loop-decision
invariant-loop-decision g l =
    LogsUpTo g.W.Sink.contents g.W.Sink.does (decision_line l.moment l.device) l.decisions
    l.initial.writer l.decision-index l.writer
