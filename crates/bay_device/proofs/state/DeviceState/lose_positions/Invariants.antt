use Rattle.std.proofs.Common.{◌≡◌, List, Option, drop}
use Rattle.bay_connection.specs.ConnectionStates.{ConnectionState}
use Rattle.bay_process.specs.Layout.{switches_of}
use Rattle.bay_device.specs.Device.{positions_lost}
use Rattle.bay_device.specs.StateView.{state_view}
use Rattle.bay_device.proofs.state.DeviceState.lose_positions.Given as goal

abbrev pub invariant-loop-switch : goal.invariant-loop-switch
invariant-loop-switch l = record {
  switches : switches_of l.self.bay.switches ≡ switches_of l.initial.self.bay.switches;
  left : (connections : List (Option ConnectionState))
      → positions_lost l.now l.switch (drop l.switch (switches_of l.initial.self.bay.switches))
      (state_view connections l.self)
      ≡ positions_lost l.now 0 (switches_of l.initial.self.bay.switches)
      (state_view connections l.initial.self);
}
