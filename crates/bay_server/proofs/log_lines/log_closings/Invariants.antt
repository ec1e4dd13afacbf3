use Rattle.bay_server.specs.LogLines.{closed_line}
use Rattle.bay_server.proofs.LogLemmas.{LogsUpTo}
use Rattle.bay_server.proofs.log_lines.log_closings.Given as goal

abbrev pub invariant-loop-entry : goal.invariant-loop-entry
invariant-loop-entry g l =
    LogsUpTo g.W.Sink.contents g.W.Sink.does (closed_line l.moment) l.closed l.initial.writer
    l.entry-index l.writer
