-- The state of the port of a process, and the input of a turn from it.
use Rattle.std.specs.Prelude.{◌≡◌, ℕ, ◌-◌, nat_le, nat_lt, Bool, true, false, List, [], Option, None, Some, is_some, option_map, unwrap_or, Result, Ok, Err, if◌then◌else◌}
use Rattle.bay_device.specs.Device.{State}
use Rattle.bay_lines.specs.FirstLines.{LineSearchData, Waiting, Overlong, Whole, first_line_of}
use Rattle.bay_lines.specs.Escaped.{escaped_text}
use Rattle.bay_process_port.specs.Releases.{ReleaseData, no_releases_sent}
use Rattle.bay_process_port.specs.Supervised.{SupervisionSettings, WatchData, settings_in, event_in, judge_line, watch_after, line_in, overlong_reason, initial_watch}
use Rattle.bay_process_port.specs.declared.connection_event.DisconnectReason.{DisconnectReason}
use Rattle.bay_process_port.specs.declared.connection_event.DisconnectReason.TheVariants.{Jumped, Silent}
use Rattle.bay_process_port.specs.declared.port.Presence.{Presence}
use Rattle.bay_process_port.specs.declared.port.Presence.TheVariants.{Absent, LossPending, Dismissed, Present}
use Rattle.bay_process_port.specs.declared.supervision.TimedMessage.{TimedMessage}
use Rattle.bay_server_turn.specs.declared.process_input.ProcessEvent.{ProcessEvent}

-- the state of the process, the octets that it has sent and no turn has taken, its queue, the
-- releases that it was sent last, if it receives them, and its supervision, if it is supervised
pub record PortData : Type 0 where
  pub presence : Presence
  pub buffer : List ℕ
  pub queue : List ℕ
  pub sent : Option (List (Option ReleaseData))
  pub watch : Option WatchData

-- an empty port, by whether a process receives releases, and by the supervision settings
abbrev pub empty_port : Bool → Option SupervisionSettings → Presence → PortData
empty_port sends settings presence = record {
  presence = presence;
  buffer = [];
  queue = [];
  sent = if sends then Some no_releases_sent else None;
  watch = option_map initial_watch settings;
}

-- the same port, emptied
abbrev pub with_no_data : Presence → PortData → PortData
with_no_data presence p = empty_port (is_some p.sent) (settings_in p.watch) presence

-- whether a process receives releases, and its supervision settings, are unchanged
pub record StaysBound (old new : PortData) : Type 0 where
  pub sent : is_some new.sent ≡ is_some old.sent
  pub settings : settings_in new.watch ≡ settings_in old.watch

-- The initial state of a process: a supervised one counts as lost until it is connected.
abbrev pub initial_presence : Option SupervisionSettings → Presence
initial_presence None = Absent
initial_presence (Some settings) = LossPending

-- the port before any process has connected
abbrev pub initial_port : Bool → Option SupervisionSettings → PortData
initial_port sends settings = empty_port sends settings (initial_presence settings)

-- why a turn has dismissed the process, if one has
abbrev pub reason_in : Presence → Option DisconnectReason
reason_in Absent = None
reason_in LossPending = None
reason_in (Dismissed why) = Some why
reason_in Present = None

-- the port after the connection of a dismissed process was closed
abbrev pub after_dismissal : Presence → PortData → PortData
after_dismissal Absent p = p
after_dismissal LossPending p = p
after_dismissal (Dismissed why) p = with_no_data Absent p
after_dismissal Present p = p

-- what a turn takes: whether the process is lost; an event, if there is one, and the line that
-- reports it; and the port after it
pub record PortReading : Type 0 where
  pub is_lost : Bool
  pub event : Option ProcessEvent
  pub line : Option (List ℕ)
  pub port : PortData

-- a turn takes nothing
abbrev pub empty_reading : PortData → PortReading
empty_reading p = record { is_lost = false; event = None; line = None; port = p }

-- a process that is believed no more is lost, and its connection is closed after the turn
abbrev pub dismissed_reading : DisconnectReason → PortData → PortReading
dismissed_reading why p = record {
  is_lost = true;
  event = None;
  line = None;
  port = with_no_data (Dismissed why) p;
}

-- ---- whether a connected process is believed at a moment

-- the system's clock has gone on further beyond the steady one than a supervised process may be
-- silent
abbrev pub has_jumped : ℕ → Option WatchData → Bool
has_jumped jump None = false
has_jumped jump (Some w) = nat_lt w.settings.limit jump

-- if no whole line was sent, a supervised process may be silent for this long
abbrev pub judge_silence : ℕ → Option WatchData → Result (Option TimedMessage) DisconnectReason
judge_silence now None = Ok None
judge_silence now (Some w) =
    if nat_le (now - w.heard) w.settings.limit then Ok None else Err (Silent w.settings.limit)

-- the message of a line that was judged, or why the connection must be closed
abbrev pub message_of : Result TimedMessage DisconnectReason
    → Result (Option TimedMessage) DisconnectReason
message_of (Err why) = Err why
message_of (Ok received) = Ok (Some received)

-- the first line is judged, if it is whole
abbrev pub judge_buffer : State → ℕ → PortData → LineSearchData
    → Result (Option TimedMessage) DisconnectReason
judge_buffer s now p Waiting = judge_silence now p.watch
judge_buffer s now p Overlong = Err (overlong_reason p.watch p.buffer)
judge_buffer s now p (Whole line rest) = message_of (judge_line p.watch s now line)

-- What the process reports at a moment, if anything, or why it is believed no more.
abbrev pub judge_port : State → ℕ → ℕ → PortData → Result (Option TimedMessage) DisconnectReason
judge_port s now jump p =
    if has_jumped jump p.watch then Err Jumped
    else judge_buffer s now p (first_line_of p.buffer)

-- ---- what a turn takes

-- a line that is whole
abbrev pub is_whole : LineSearchData → Bool
is_whole Waiting = false
is_whole Overlong = false
is_whole (Whole line rest) = true

-- The process has sent a whole line that no turn has taken.
abbrev pub has_line : PortData → Bool
has_line p = is_whole (first_line_of p.buffer)

-- a line that was judged is taken
abbrev pub line_reading : ℕ → TimedMessage → LineSearchData → PortData → PortReading
line_reading now received Waiting p = empty_reading p
line_reading now received Overlong p = empty_reading p
line_reading now received (Whole line rest) p = record {
  is_lost = false;
  event = event_in received.message;
  line = line_in received.message line;
  port = record p { buffer = rest; watch = watch_after now received p.watch };
}

-- what a turn takes, by what was judged
abbrev pub judged_reading : ℕ → Result (Option TimedMessage) DisconnectReason → LineSearchData
    → PortData
    → PortReading
judged_reading now (Err why) f p = dismissed_reading why p
judged_reading now (Ok None) f p = empty_reading p
judged_reading now (Ok (Some received)) f p = line_reading now received f p

-- what a turn takes of a connected process
abbrev pub connected_reading : State → ℕ → ℕ → PortData → PortReading
connected_reading s now jump p =
    judged_reading now (judge_port s now jump p) (first_line_of p.buffer) p

-- the loss of a process that has disconnected
abbrev pub lost_reading : PortData → PortReading
lost_reading p = record { is_lost = true; event = None; line = None; port = with_no_data Absent p }

-- what a turn takes, by the state of the process
abbrev pub presence_reading : Presence → State → ℕ → ℕ → PortData → PortReading
presence_reading Absent s now jump p = empty_reading p
presence_reading LossPending s now jump p = lost_reading p
presence_reading (Dismissed why) s now jump p = empty_reading p
presence_reading Present s now jump p = connected_reading s now jump p

-- What a turn takes of the port at a moment, if the system's clock has gone on this far beyond the
-- steady one since the turn before: of a process that is connected and still believed the next line
-- that it has sent; of one that has gone, or is believed no more, once, that it is lost.
abbrev pub port_reading : State → ℕ → ℕ → PortData → PortReading
port_reading s now jump p = presence_reading p.presence s now jump p

-- A turn that has a line of a trace takes only that the process is lost.
abbrev pub loss_only : PortReading → PortData → PortReading
loss_only taken p = if taken.is_lost then taken else empty_reading p

-- what a turn takes of the port if it has a line of a trace
abbrev pub loss_reading : State → ℕ → ℕ → PortData → PortReading
loss_reading s now jump p = loss_only (port_reading s now jump p) p

-- the line, escaped
abbrev pub shown_line : Option (List ℕ) → List ℕ
shown_line line = escaped_text (unwrap_or line [])
