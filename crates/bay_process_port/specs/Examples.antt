-- A process that has sent the beginning of a line.
use Rattle.std.specs.Prelude.{List, [], ◌∷◌, None, Some}
use Rattle.std.specs.declared.net.socket_addr.SocketAddrV4.{SocketAddrV4}
use Rattle.bay_device.specs.Device.{State}
use Rattle.bay_server_turn.specs.Calls.{ReadOutcome, Octets}
use Rattle.bay_process_port.specs.ProcessOutput.{ReportedTurn}
use Rattle.bay_process_port.specs.Uses.{Use, Polls}

-- after a turn a process is accepted, an A is read, and then this
abbrev pub sent_after_a : ReadOutcome → ReportedTurn → State → SocketAddrV4 → List Use
sent_after_a again t s from = Polls t s (record {
  accepted = Some (Some from);
  taken = None;
  heard = Octets (65 ∷ []);
  again = again;
}) ∷ []
