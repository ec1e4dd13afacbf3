use Rattle.bay_server.specs.LogLines.{decisions_log}
use Rattle.bay_server.proofs.LogLemmas.{LogsFrom}
use Rattle.bay_server.proofs.control_lines.log_controls.Given as goal

abbrev pub invariant-loop-decisions : goal.invariant-loop-decisions
invariant-loop-decisions g l =
    LogsFrom g.W.Sink.contents g.W.Sink.does (decisions_log l.moment l.device) l.request
    l.initial.writer l.decisions-index l.writer
