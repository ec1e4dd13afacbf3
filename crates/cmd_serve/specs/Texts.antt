-- The lines that a server prints for its turns, and sends to its process, as they are read back.
use Rattle.std.specs.Prelude.{ℕ, ◌≡◌, ◌⊎◌, List, [], ◌∷◌, slice_get, Some}
use Rattle.std.specs.List.{Contains}
use Rattle.bay_nodes.specs.declared.switch.Switch.{Switch}
use Rattle.bay_mms_services.specs.declared.answer.Command.{Command}
use Rattle.bay_device.specs.Device.{State}
use Rattle.bay_device.specs.Fresh.{PastEvent}
use Rattle.bay_process_port.specs.ProcessOutput.{process_turn_text}
use Rattle.bay_replay_laws.specs.Printed.{PrintedCommand, lines_in, printed_command}
use Rattle.bay_server_turn.specs.Turns.{ServerData}
use Rattle.bay_server_turn_laws.specs.Events.{turn_events}
use Rattle.bay_server.specs.TurnLines.{turn_text}
use Rattle.cmd_serve.specs.Requests.{IsRequested}
use Rattle.cmd_serve.specs.Service.{DoneTurn, server_after, past_after}

-- A line that reads as a command is that of a command that the turn reported, at the turn's moment,
-- to the switch with this id; and this command was ordered.
pub record IsPrintedFor (first : State) (h : ServerData) (t : DoneTurn) (past : List PastEvent)
    (printed : PrintedCommand) : Type 0 where
  pub command : Command
  pub reported : Contains t.reported.commands command
  pub moment : printed.moment ≡ t.now
  pub switch : Switch
  pub here : slice_get first.switches command.switch ≡ Some switch
  pub named : printed.id ≡ switch.id
  pub operation : printed.operation ≡ command.operation
  pub ordered : IsRequested first h t past command

-- The line is printed for a turn, or sent to the process after it.
abbrev pub IsTurnLine : DoneTurn → State → List ℕ → Type 0
IsTurnLine t s line =
    Contains (lines_in (turn_text t.now t.reported s)) line
    ⊎ Contains (lines_in (process_turn_text t.now t.reported s)) line

-- Each line of the turns that reads as a command is that of such a command.
abbrev pub ArePrinted : State → ServerData → List PastEvent → List DoneTurn → Type 0
ArePrinted first h past [] = Unit {0}
ArePrinted first h past (t ∷ ts) =
    ((line : List ℕ) (printed : PrintedCommand)
    → IsTurnLine t (server_after t h).device line → printed_command line ≡ Some printed
    → IsPrintedFor first h t past printed)
    × ArePrinted first (server_after t h)
    (past_after t.now (turn_events t.now t.given t.script h) h.device past) ts
