-- The state of the definitions for a state of the code, apart from its clients.
use Rattle.std.specs.Prelude.{List, Option}
use Rattle.bay_connection.specs.ConnectionStates.{ConnectionState}
use Rattle.bay_mms_services.specs.Views.{controls_view}
use Rattle.bay_device.specs.Device.{State}
use Rattle.bay_process.specs.Layout.{switches_of, meters_of}
use Rattle.bay_process.specs.ModelRows.{profile_with}
use Rattle.bay_device.specs.declared.state.DeviceState.{DeviceState}

-- a device's state, with these states of the connections
abbrev pub state_view : List (Option ConnectionState) → DeviceState → State
state_view connections d = record {
  domain = d.bay.domain;
  vendor = d.bay.vendor;
  model = d.bay.model;
  revision = d.bay.revision;
  scan_max_age_ms = d.scan_max_age_ms;
  switches = switches_of d.bay.switches;
  inputs = d.inputs;
  input_values = d.input_values;
  meters = meters_of d.meters;
  profile = profile_with d.model_rows;
  reads = d.reads;
  writes = d.writes;
  machine = d.machine;
  rows = d.bay.tree;
  moment = d.moment;
  last_scan = d.last_scan;
  is_stale = d.is_stale;
  is_lost = d.is_lost;
  controls = controls_view d.bay d.bay.controls;
  pending = d.pending;
  connections = connections;
}
