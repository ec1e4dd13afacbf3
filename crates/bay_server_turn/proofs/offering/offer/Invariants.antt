use Rattle.std.proofs.Common.{◌-◌, ◌≤◌, length}
use Rattle.bay_server_turn.specs.Calls.{CountedCall}
use Rattle.bay_server_turn.specs.Served.{OffersSoFar}
use Rattle.bay_server_turn.proofs.offering.offer.Given as goal

abbrev pub invariant-loop-done : goal.invariant-loop-done
invariant-loop-done g l = record {
  within : l.done ≤ length l.octets;
  so_far : OffersSoFar (CountedCall g.L.Link.does g.L.Link.failures) l.initial.link l.link
      l.association
      l.octets l.done;
}

abbrev pub decreases-loop-done : goal.decreases-loop-done
decreases-loop-done g l = length l.octets - l.done
