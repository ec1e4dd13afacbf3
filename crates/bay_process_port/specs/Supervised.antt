-- The supervision settings, what is known of a supervised process, and how its lines are read.
use Rattle.std.specs.Prelude.{ℕ, ◌-◌, Bool, true, false, ◌&&◌, min, nat_le, nat_lt, List, [], ◌∷◌, Option, None, Some, option_map, Result, Ok, Err, if◌then◌else◌}
use Rattle.bay_device.specs.Device.{State}
use Rattle.bay_lines.specs.Escaped.{escaped_text}
use Rattle.bay_process_port.specs.declared.connection_event.DisconnectReason.{DisconnectReason}
use Rattle.bay_process_port.specs.declared.connection_event.DisconnectReason.TheVariants.{BadLine, Foreign, OutOfOrder, Untimely}
use Rattle.bay_process_port.specs.declared.supervision.ProcessMessage.{ProcessMessage}
use Rattle.bay_process_port.specs.declared.supervision.ProcessMessage.TheVariants.{Blank, Reports, Introduces, Lives}
use Rattle.bay_process_port.specs.declared.supervision.TimedMessage.{TimedMessage}
use Rattle.bay_server_turn.specs.Served.{event_in_line}
use Rattle.bay_process_port.specs.Introduction.{introduction_moment}
use Rattle.bay_server_turn.specs.Supervised.{timed_line_of}
use Rattle.bay_server_turn.specs.declared.process_input.ProcessEvent.{ProcessEvent}
use Rattle.bay_server_turn.specs.declared.supervised.TimedLine.{TimedLine}

-- the supervision settings: the longest silence, in milliseconds, by which its times may also
-- differ from the server's; and its key
pub record SupervisionSettings : Type 0 where
  pub limit : ℕ
  pub key : List ℕ

-- what is known of a supervised process: its settings; whether it has introduced itself; the moment
-- of the last line that was taken, but no later one than that of its turn, or before the first line
-- the moment at which the connection was accepted; the moment that this line names; and whether the
-- last turn took a line which reports that the process lives
pub record WatchData : Type 0 where
  pub settings : SupervisionSettings
  pub introduced : Bool
  pub heard : ℕ
  pub last : ℕ
  pub lives : Bool

-- nothing is known of the process yet
abbrev pub initial_watch : SupervisionSettings → WatchData
initial_watch settings =
    record { settings = settings; introduced = false; heard = 0; last = 0; lives = false }

-- the supervision settings, if the process is supervised
abbrev pub settings_in : Option WatchData → Option SupervisionSettings
settings_in watch = option_map (λ (w : WatchData). w.settings) watch

-- its connection was accepted at a moment
abbrev pub active_at : ℕ → Option WatchData → Option WatchData
active_at moment watch = option_map (λ (w : WatchData). record w { heard = moment }) watch

-- ---- the message of a line

-- a moment of a process differs from the server's by at most the limit, to either side
abbrev pub is_timely : ℕ → ℕ → ℕ → Bool
is_timely limit now moment = nat_le (now - moment) limit && nat_le (moment - now) limit

-- the message with its moment, if the moment is timely; otherwise the connection ends
abbrev pub judge_moment : ℕ → ℕ → ℕ → ProcessMessage → Result TimedMessage DisconnectReason
judge_moment limit now moment message =
    if is_timely limit now moment then Ok (record { moment = moment; message = message })
    else Err Untimely

-- the first line has the name and the key of this bay
abbrev pub judge_introduction : SupervisionSettings → ℕ → Option ℕ
    → Result TimedMessage DisconnectReason
judge_introduction settings now None = Err Foreign
judge_introduction settings now (Some moment) = judge_moment settings.limit now moment Introduces

-- a later line reports an event, or that the process is alive
abbrev pub event_message : Option ProcessEvent → ProcessMessage
event_message None = Lives
event_message (Some event) = Reports event

-- The moments of a process do not go back: a line whose moment is before that of the last line that
-- was taken ends the connection
abbrev pub judge_later_line : List ℕ → WatchData → ℕ → Option TimedLine
    → Result TimedMessage DisconnectReason
judge_later_line line w now None = Err (BadLine (escaped_text line))
judge_later_line line w now (Some timed) =
    if nat_lt timed.moment w.last then Err OutOfOrder
    else judge_moment w.settings.limit now timed.moment (event_message timed.event)

-- a line of a process that is not supervised reports an event of this moment, or is empty
abbrev pub judge_plain_line : ℕ → List ℕ → Option ProcessEvent
    → Result TimedMessage DisconnectReason
judge_plain_line now [] event = Ok (record { moment = now; message = Blank })
judge_plain_line now (b ∷ bs) None = Err (BadLine (escaped_text (b ∷ bs)))
judge_plain_line now (b ∷ bs) (Some event) = Ok (record { moment = now; message = Reports event })

-- The message of a line at a moment, with the moment from which it counts, or why the connection
-- must be closed.
abbrev pub judge_line : Option WatchData → State → ℕ → List ℕ → Result TimedMessage DisconnectReason
judge_line None s now line = judge_plain_line now line (event_in_line s line)
judge_line (Some w) s now line =
    if w.introduced then judge_later_line line w now (timed_line_of s line)
    else judge_introduction w.settings now
    (introduction_moment w.settings.key s.domain s.revision line)

-- why the connection must be closed if there are more octets than a line may have, without an end
abbrev pub overlong_reason : Option WatchData → List ℕ → DisconnectReason
overlong_reason None buffer = BadLine (escaped_text buffer)
overlong_reason (Some w) buffer = if w.introduced then BadLine (escaped_text buffer) else Foreign

-- ---- what a turn takes of it

-- the event of a message
abbrev pub event_in : ProcessMessage → Option ProcessEvent
event_in Blank = None
event_in (Reports event) = Some event
event_in Introduces = None
event_in Lives = None

-- the line, if its message reports an event
abbrev pub line_in : ProcessMessage → List ℕ → Option (List ℕ)
line_in Blank line = None
line_in (Reports event) line = Some line
line_in Introduces line = None
line_in Lives line = None

-- what is known of the process after a message
abbrev pub after_message : ProcessMessage → WatchData → WatchData
after_message Blank w = w
after_message (Reports event) w = w
after_message Introduces w = record w { introduced = true }
after_message Lives w = record w { lives = true }

-- a line counts from the moment that it names, but from no later one than that of its turn
abbrev pub after_timed_message : ℕ → TimedMessage → WatchData → WatchData
after_timed_message now received w =
    after_message received.message
    (record w { heard = min now received.moment; last = received.moment })

-- what is known of the process after a message, if it is supervised
abbrev pub watch_after : ℕ → TimedMessage → Option WatchData → Option WatchData
watch_after now received watch = option_map (after_timed_message now received) watch

-- the process was answered that the server is alive
abbrev pub after_alive_answer : Option WatchData → Option WatchData
after_alive_answer watch = option_map (λ (w : WatchData). record w { lives = false }) watch
