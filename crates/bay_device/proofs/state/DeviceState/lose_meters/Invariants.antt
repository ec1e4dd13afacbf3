use Rattle.std.proofs.Common.{◌≡◌, List, Option, drop}
use Rattle.bay_connection.specs.ConnectionStates.{ConnectionState}
use Rattle.bay_process.specs.Layout.{meters_of}
use Rattle.bay_device.specs.Device.{measures_lost}
use Rattle.bay_device.specs.StateView.{state_view}
use Rattle.bay_device.proofs.state.DeviceState.lose_meters.Given as goal

abbrev pub invariant-loop-meter : goal.invariant-loop-meter
invariant-loop-meter l = record {
  meters : l.self.meters ≡ l.initial.self.meters;
  left : (connections : List (Option ConnectionState))
      → measures_lost l.now l.meter (drop l.meter (meters_of l.initial.self.meters))
      (state_view connections l.self)
      ≡ measures_lost l.now 0 (meters_of l.initial.self.meters)
      (state_view connections l.initial.self);
}
