use Rattle.std.proofs.Common.{◌≡◌, ◌≤◌, ◌<◌, ◌-◌, List, Option, length, drop, take}
use Rattle.bay_transport.specs.Feeding.{AcceptsOctets}
use Rattle.bay_connection.specs.ConnectionStates.{ConnectionState, connection_after}
use Rattle.bay_device.specs.ReceivingViews.{AdvancesTo, step_state}
use Rattle.bay_device.specs.StateView.{state_view}
use Rattle.bay_device.proofs.octets.handle_octets.Given as goal

abbrev pub invariant-loop-at : goal.invariant-loop-at
invariant-loop-at l = record {
  within : l.at ≤ length l.octets;
  going : AcceptsOctets l.connection.state.stream.state;
  first : l.at ≡ 0 → l.connection.state ≡ l.initial.connection.state;
  later : 0 < l.at → l.connection.state
      ≡ connection_after l.initial.connection.state (take l.at l.octets);
  moves : (connections : List (Option ConnectionState))
      → AdvancesTo l.now l.association l.initial.connection.state l.octets
      (step_state (state_view connections l.initial.state) l.initial.effects)
      l.connection.state (drop l.at l.octets)
      (step_state (state_view connections l.state) l.effects);
}

abbrev pub decreases-loop-at : goal.decreases-loop-at
decreases-loop-at l = length l.octets - l.at
