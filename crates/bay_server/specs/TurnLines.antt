-- What is printed for a turn of a server.
use Rattle.std.specs.Prelude.{ℕ, Bool, ◌&&◌, ◌==◌, List, ◌∷◌, ◌++◌, length, codes, is_none, []}
use Rattle.std.specs.Fmt.{decimal}
use Rattle.bay_device.specs.Device.{State}
use Rattle.bay_device.specs.declared.event.Why.TheVariants.{Fault, Memory}
use Rattle.bay_process_port.specs.Code.{code_of as port_code_of}
use Rattle.bay_process_port.specs.ProcessOutput.{process_turn_text}
use Rattle.bay_process_port.specs.declared.connection_event.ConnectionEvent.{ConnectionEvent}
use Rattle.bay_process_port.specs.declared.connection_event.ConnectionEvent.TheVariants.{Opened, Closed}
use Rattle.bay_report.specs.Lines.{closing_text, unreadable_text}
use Rattle.bay_server_turn.specs.Code.{code_of}
use Rattle.bay_server_turn.specs.declared.fault.ServeFault.{ServeFault}
use Rattle.bay_server_turn.specs.declared.fault.ServeFault.TheVariants.{BadLine, MomentTooLarge}
use Rattle.bay_server_turn.specs.declared.turn_report.CloseReason.{CloseReason}
use Rattle.bay_server_turn.specs.declared.turn_report.Turn.{Turn}

-- the lines of the associations that were closed, each with its number
abbrev pub closings_text : ℕ → List (ℕ × CloseReason) → List ℕ
closings_text now [] = []
closings_text now (closed ∷ more) =
    closing_text now closed.0 (Fault (code_of closed.1)) ++ closings_text now more

-- the lines of the associations that were closed because memory ran out
abbrev pub memory_closings_text : ℕ → List ℕ → List ℕ
memory_closings_text now [] = []
memory_closings_text now (a ∷ more) = closing_text now a Memory ++ memory_closings_text now more

-- the lines that are printed for a turn at `now`, if `s` is the state of the device after it: a
-- refusal, the commands, the closings, and the closings because memory ran out
abbrev pub turn_text : ℕ → Turn → State → List ℕ
turn_text now turn s =
    process_turn_text now turn s ++ closings_text now turn.closed
    ++ memory_closings_text now turn.memory

-- the line of an event of the process's connection
abbrev pub connection_event_text : ℕ → ConnectionEvent → List ℕ
connection_event_text now Opened = decimal now ++ codes " process open\n"
connection_event_text now (Closed why) =
    decimal now ++ codes " process closed " ++ decimal (port_code_of why) ++ codes "\n"

-- the turn has nothing to print
abbrev pub is_quiet : Turn → Bool
is_quiet turn =
    is_none turn.refused && (length turn.commands == 0
    && (length turn.closed == 0 && length turn.memory == 0))

-- what is printed if a turn is refused, by the number of its line of the trace
abbrev pub turn_refusal_text : ServeFault → ℕ → List ℕ
turn_refusal_text BadLine k = unreadable_text k
turn_refusal_text MomentTooLarge k = codes "fault 114\n"
