use Rattle.std.proofs.Common.{◌≤◌, length}
use Rattle.bay_server_turn.specs.Calls.{CountedCall}
use Rattle.bay_server_turn.specs.Turns.{read_calls, read_one, turn_state}
use Rattle.bay_server_turn.specs.Served.{PerformsEach}
use Rattle.bay_server_turn.proofs.reading.read_clients.Given as goal

abbrev pub invariant-loop-slot : goal.invariant-loop-slot
invariant-loop-slot g l = record {
  within : l.slot ≤ l.count;
  room : length l.notes.commands ≤ l.slot;
  each : PerformsEach (CountedCall g.L.Link.does g.L.Link.failures) (read_one l.now)
      (read_calls l.now)
      l.initial.link l.link l.slot (turn_state l.initial.server l.initial.notes)
      (turn_state l.server l.notes);
}
