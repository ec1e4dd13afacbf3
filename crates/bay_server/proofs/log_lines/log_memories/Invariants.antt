use Rattle.bay_server.specs.LogLines.{memory_line}
use Rattle.bay_server.proofs.LogLemmas.{LogsUpTo}
use Rattle.bay_server.proofs.log_lines.log_memories.Given as goal

abbrev pub invariant-loop-association : goal.invariant-loop-association
invariant-loop-association g l =
    LogsUpTo g.W.Sink.contents g.W.Sink.does (memory_line l.moment) l.memory l.initial.writer
    l.association-index l.writer
