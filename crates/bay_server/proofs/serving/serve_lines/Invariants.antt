use Rattle.std.proofs.Common.{◌≤◌, ◌-◌}
use Rattle.bay_server.specs.Serving.{with_host}
use Rattle.bay_server.proofs.ServeLemmas.{Reached}
use Rattle.bay_server_turn.specs.Calls.{CountedCall}
use Rattle.bay_server.proofs.serving.serve_lines.Given as goal

abbrev pub invariant-loop-turn : goal.invariant-loop-turn
invariant-loop-turn g l = record {
  within : l.turn ≤ l.turns;
  reached : Reached (CountedCall g.L.Link.does g.L.Link.failures) g.H.Host.does
      g.W.Sink.contents
      g.W.Sink.does l.turns (with_host l.initial.served l.initial.host l.initial.lines)
      l.initial.writer (l.turns - l.turn) (with_host l.served l.host l.lines) l.writer;
}
