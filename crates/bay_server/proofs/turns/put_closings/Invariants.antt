use Rattle.std.proofs.Common.{drop}
use Rattle.bay_io.proofs.SentLemmas.{Rest}
use Rattle.bay_server.specs.TurnLines.{closings_text}
use Rattle.bay_server.proofs.turns.put_closings.Given as goal

abbrev pub invariant-loop-entry : goal.invariant-loop-entry
invariant-loop-entry g l =
    Rest g.W.Sink.contents g.W.Sink.does l.initial.writer (closings_text l.moment l.closed)
    (closings_text l.moment (drop l.entry-index l.closed)) l.writer
