use Rattle.std.proofs.Common.{drop}
use Rattle.bay_io.proofs.SentLemmas.{Rest}
use Rattle.bay_server.specs.TurnLines.{memory_closings_text}
use Rattle.bay_server.proofs.turns.put_memories.Given as goal

abbrev pub invariant-loop-association : goal.invariant-loop-association
invariant-loop-association g l =
    Rest g.W.Sink.contents g.W.Sink.does l.initial.writer (memory_closings_text l.moment l.memory)
    (memory_closings_text l.moment (drop l.association-index l.memory)) l.writer
