use Rattle.std.proofs.Common.{◌≤◌}
use Rattle.bay_server_turn.specs.Calls.{CountedCall}
use Rattle.bay_server_turn.specs.Turns.{offer_calls, offer_one, turn_state}
use Rattle.bay_server_turn.specs.Served.{PerformsEach}
use Rattle.bay_server_turn.proofs.offering.offer_each.Given as goal

abbrev pub invariant-loop-slot : goal.invariant-loop-slot
invariant-loop-slot g l = record {
  within : l.slot ≤ 8;
  each : PerformsEach (CountedCall g.L.Link.does g.L.Link.failures) (offer_one l.now)
      (offer_calls l.now)
      l.initial.link l.link l.slot (turn_state l.initial.server l.initial.notes)
      (turn_state l.server l.notes);
}
