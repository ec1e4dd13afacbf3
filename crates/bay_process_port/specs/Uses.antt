-- The lines that turns take from a process since it is accepted, over all uses of its port.
use Rattle.std.specs.Prelude.{◌≡◌, ℕ, ◌<◌, Bool, true, List, [], ◌∷◌, ◌++◌, length, filter, None, Some, Option}
use Rattle.std.specs.Option.{option_to_list}
use Rattle.bay_device.specs.Device.{State}
use Rattle.bay_device.specs.LookUps.{may_open, may_close}
use Rattle.bay_lines.specs.LineRemovals.{AreLines}
use Rattle.bay_server_turn.specs.Calls.{Call, Accepts, Reads, Writes, Closes, ReadOutcome, Octets, Silence, StreamEnd, Failure}
use Rattle.bay_process_port.specs.Polling.{Script, poll_outcome}
use Rattle.bay_process_port.specs.Fit.{has_process_event}
use Rattle.bay_process_port.specs.Ports.{PortData, empty_port, port_reading}
use Rattle.bay_process_port.specs.Releases.{ReleaseData, last_release_sent, new_releases}
use Rattle.bay_process_port.specs.ProcessOutput.{ReportedTurn}
use Rattle.bay_process_port.specs.Supervised.{SupervisionSettings}
use Rattle.bay_process_port.specs.declared.port.Presence.{Presence}
use Rattle.bay_process_port.specs.declared.port.Presence.TheVariants.{Absent, LossPending, Dismissed, Present}

-- The port is used: a turn takes its line at a moment, and the clocks say how far the system's has
-- gone on beyond the steady one; or its connection is attended to after a turn with this report.
pub data Use : Type 0 where
  Takes : State → ℕ → ℕ → Use
  Polls : ReportedTurn → State → Script → Use

-- ---- one use

-- the port after a use
abbrev pub port_after : Use → PortData → PortData
port_after (Takes s now jump) p = (port_reading s now jump p).port
port_after (Polls t s script) p = (poll_outcome t s script p).port

-- the line that the turn takes
abbrev pub line_read : Use → PortData → List (List ℕ)
line_read (Takes s now jump) p = option_to_list (port_reading s now jump p).line
line_read (Polls t s script) p = []

-- the octets of a read
abbrev pub octets_of_read : ReadOutcome → List ℕ
octets_of_read (Octets octets) = octets
octets_of_read Silence = []
octets_of_read StreamEnd = []
octets_of_read Failure = []

-- the octets that the link read
abbrev pub octets_read_by : List Call → List ℕ
octets_read_by [] = []
octets_read_by (Accepts a taken ∷ calls) = octets_read_by calls
octets_read_by (Reads a room heard ∷ calls) = octets_of_read heard ++ octets_read_by calls
octets_read_by (Writes a octets taken ∷ calls) = octets_read_by calls
octets_read_by (Closes a ∷ calls) = octets_read_by calls

-- the octets that the link read in a use
abbrev pub octets_read : Use → PortData → List ℕ
octets_read (Takes s now jump) p = []
octets_read (Polls t s script) p = octets_read_by (poll_outcome t s script p).calls

-- ---- one use after the other

-- the port after uses
abbrev pub after_uses : List Use → PortData → PortData
after_uses [] p = p
after_uses (u ∷ us) p = after_uses us (port_after u p)

-- the lines that turns take in uses
abbrev pub all_lines_read : List Use → PortData → List (List ℕ)
all_lines_read [] p = []
all_lines_read (u ∷ us) p = line_read u p ++ all_lines_read us (port_after u p)

-- the octets that the link read in uses
abbrev pub all_octets_read : List Use → PortData → List ℕ
all_octets_read [] p = []
all_octets_read (u ∷ us) p = octets_read u p ++ all_octets_read us (port_after u p)

-- the process is connected after each of them
abbrev pub StaysPresent : List Use → PortData → Type 0
StaysPresent [] p = Unit {0}
StaysPresent (u ∷ us) p = ((port_after u p).presence ≡ Present) × StaysPresent us (port_after u p)

-- The octets read since the process was accepted are complete lines followed by the buffered rest.
-- The turns got these lines in order, except those without an event, such as an empty line.
pub record LosesNoLine (sends : Bool) (settings : Option SupervisionSettings) (uses : List Use)
    : Type 0 where
  pub lines : List (List ℕ)
  pub text : List ℕ
  pub are : AreLines lines text
  pub given : all_octets_read uses (empty_port sends settings Absent)
      ≡ text ++ (after_uses uses (empty_port sends settings Absent)).buffer
  pub lines_read : all_lines_read uses (empty_port sends settings Absent)
      ≡ filter has_process_event lines

-- ---- releases

-- the releases that are sent in a use: after a turn, to a connected process
abbrev pub releases_sent_as : Presence → State → PortData → List (ℕ × ReleaseData)
releases_sent_as Absent s p = []
releases_sent_as LossPending s p = []
releases_sent_as (Dismissed why) s p = []
releases_sent_as Present s p = new_releases s p.sent

-- the releases that are sent in a use, to a connected process
abbrev pub releases_sent : Use → PortData → List (ℕ × ReleaseData)
releases_sent (Takes s now jump) p = []
releases_sent (Polls t s script) p = releases_sent_as p.presence s p

-- the releases that are sent in uses
abbrev pub all_releases_sent : List Use → PortData → List (ℕ × ReleaseData)
all_releases_sent [] p = []
all_releases_sent (u ∷ us) p = releases_sent u p ++ all_releases_sent us (port_after u p)

-- For a process that was connected before a turn, and receives releases, the release that was sent
-- last for each switch is its release.
abbrev pub IsUpToDate : Option SupervisionSettings → List Use → ReportedTurn → State → Script
    → Type 0
IsUpToDate settings uses t s script =
    (after_uses uses (empty_port true settings Absent)).presence ≡ Present
    → (poll_outcome t s script (after_uses uses (empty_port true settings Absent))).connection_event
    ≡ None
    → (k : ℕ) → k < 32 → k < length s.switches
    → last_release_sent k None
    (all_releases_sent (uses ++ Polls t s script ∷ []) (empty_port true settings Absent))
    ≡ Some (may_open s k, may_close s k)
