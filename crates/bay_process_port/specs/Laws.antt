-- Laws of the port of a process, turn after turn.
use Rattle.std.specs.Prelude.{◌≡◌, ℕ, Bool, ◌||◌, true, false, List, [], ◌∷◌, ◌++◌, take, None, Some, Ok}
use Rattle.bay_device.specs.Device.{State}
use Rattle.bay_process_port.specs.Polling.{Script, all_output, poll_outcome, close_dismissed}
use Rattle.bay_process_port.specs.Ports.{PortData, dismissed_reading, with_no_data, lost_reading, port_reading}
use Rattle.bay_process_port.specs.ProcessOutput.{ReportedTurn}
use Rattle.bay_process_port.specs.declared.connection_event.ConnectionEvent.TheVariants.{Closed}
use Rattle.bay_process_port.specs.declared.connection_event.DisconnectReason.{DisconnectReason}
use Rattle.bay_process_port.specs.declared.port.Presence.TheVariants.{Absent, LossPending, Dismissed, Present}
use Rattle.bay_server_turn.specs.Calls.{Call, Accepts, Reads, Writes, Closes, ReadOutcome, Octets, Silence, StreamEnd, Failure}
use Rattle.bay_server_turn.specs.Served.{report_of_event, event_in_line, input_of_event}

-- the end of what a process sends, or a failure
abbrev pub is_end : ReadOutcome → Bool
is_end (Octets octets) = false
is_end Silence = false
is_end StreamEnd = true
is_end Failure = true

-- one of the calls is a read with this result
abbrev pub reads_end : List Call → Bool
reads_end [] = false
reads_end (Accepts a taken ∷ calls) = reads_end calls
reads_end (Reads a room heard ∷ calls) = is_end heard || reads_end calls
reads_end (Writes a octets taken ∷ calls) = reads_end calls
reads_end (Closes a ∷ calls) = reads_end calls

-- If the connection of a process is closed after a turn, the port discards its octets, and nothing
-- counts as reported to it. The next turn reads from the port that the process is lost, and no
-- line; the link is not called before. A process that a turn dismisses is lost in this turn, which
-- reads no line of it; after the turn its connection is closed for the same reason. If a process
-- has gone while it waited, the port buffers nothing of it and reports nothing.
pub record ReportsNothing (t : ReportedTurn) (s : State) (now jump : ℕ) (script : Script)
    (p : PortData)
    : Type 0 where
  pub closed : (why : DisconnectReason) → p.presence ≡ Present
      → (poll_outcome t s script p).connection_event ≡ Some (Closed why)
      → (poll_outcome t s script p).port ≡ with_no_data LossPending p
  pub lost : p.presence ≡ LossPending → port_reading s now jump p ≡ lost_reading p
  pub dismisses : (why : DisconnectReason) → p.presence ≡ Present
      → (port_reading s now jump p).port.presence ≡ Dismissed why
      → port_reading s now jump p ≡ dismissed_reading why p
  pub parts : (why : DisconnectReason) → p.presence ≡ Dismissed why
      → poll_outcome t s script p ≡ close_dismissed why p
  pub calls : p.presence ≡ LossPending → (poll_outcome t s script p).calls ≡ []
  pub not_accepted : p.presence ≡ Absent → reads_end (poll_outcome t s script p).calls ≡ true
      → ((poll_outcome t s script p).connection_event ≡ None)
      × ((poll_outcome t s script p).port ≡ with_no_data Absent p)

-- a line that the port hands to a turn can be read, and spells the input of the turn
abbrev pub IsReadable : State → ℕ → ℕ → PortData → Type 0
IsReadable s now jump p = (line : List ℕ) → (port_reading s now jump p).line ≡ Some line
    → input_of_event (event_in_line s line) ≡ Ok (report_of_event (port_reading s now jump p).event)

-- the octets that the link took
abbrev pub accepted_octets : List Call → List ℕ
accepted_octets [] = []
accepted_octets (Accepts a taken ∷ calls) = accepted_octets calls
accepted_octets (Reads a room heard ∷ calls) = accepted_octets calls
accepted_octets (Writes a octets None ∷ calls) = accepted_octets calls
accepted_octets (Writes a octets (Some n) ∷ calls) = take n octets ++ accepted_octets calls
accepted_octets (Closes a ∷ calls) = accepted_octets calls

-- For a connected process the link takes the queue, then the report of the turn, in order; what it
-- does not take stays queued, or is lost if the connection is closed.
pub record WritesInOrder (t : ReportedTurn) (s : State) (script : Script) (p : PortData)
    : Type 0 where
  pub rest : List ℕ
  pub whole : p.queue ++ all_output t s p
      ≡ accepted_octets (poll_outcome t s script p).calls ++ rest
  pub waits : (poll_outcome t s script p).connection_event ≡ None
      → (poll_outcome t s script p).port.queue ≡ rest
