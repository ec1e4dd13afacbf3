-- How the connection of the process is served after a turn: what is sent to the process, and what
-- is read from it.
use Rattle.std.specs.Prelude.{◌≡◌, ℕ, List, [], ◌∷◌, ◌++◌, drop, Option, None, Some, Result, Ok, Err, if◌then◌else◌}
use Rattle.std.specs.declared.net.socket_addr.SocketAddrV4.{SocketAddrV4}
use Rattle.bay_device.specs.Device.{State}
use Rattle.bay_lines.specs.FirstLines.{first_line_of}
use Rattle.bay_process_port.specs.Fit.{is_waiting}
use Rattle.bay_process_port.specs.Ports.{PortData, with_no_data}
use Rattle.bay_process_port.specs.Releases.{releases_text, new_releases, sent_releases_after}
use Rattle.bay_process_port.specs.ProcessOutput.{ReportedTurn, alive_text, fits_in, greeting_text, lives_in, expiry_for, expiry_text}
use Rattle.bay_process_port.specs.Supervised.{after_alive_answer, active_at}
use Rattle.bay_process_port.specs.declared.connection_event.ConnectionEvent.{ConnectionEvent}
use Rattle.bay_process_port.specs.declared.connection_event.ConnectionEvent.TheVariants.{Opened, Closed}
use Rattle.bay_process_port.specs.declared.connection_event.DisconnectReason.{DisconnectReason}
use Rattle.bay_process_port.specs.declared.connection_event.DisconnectReason.TheVariants.{Ended, QueueFull, LinkFailed}
use Rattle.bay_process_port.specs.declared.port.Presence.{Presence}
use Rattle.bay_process_port.specs.declared.port.Presence.TheVariants.{Absent, LossPending, Dismissed, Present}
use Rattle.bay_server_turn.specs.Calls.{Call, Accepts, Reads, Writes, Closes, ReadOutcome, Octets, Silence, StreamEnd, Failure, MakesCalls}

-- the results of the link: whether a connection was accepted, how many octets of a write it took,
-- the result of a read, and of a second one
pub record Script : Type 0 where
  pub accepted : Option (Option SocketAddrV4)
  pub taken : Option ℕ
  pub heard : ReadOutcome
  pub again : ReadOutcome

-- one part of serving a connected process: the port after it, or why the connection must be closed;
-- and the calls on the link, in which the process is association 1
pub record PollPart : Type 0 where
  pub after : Result PortData DisconnectReason
  pub calls : List Call

-- the connection stays open
abbrev pub stays_open : PortData → List Call → PollPart
stays_open p calls = record { after = Ok p; calls = calls }

-- the connection must be closed
abbrev pub must_close : DisconnectReason → List Call → PollPart
must_close why calls = record { after = Err why; calls = calls }

-- ---- the parts

-- all that is queued after a turn: that an operate has expired, the report of the turn, the
-- releases that have changed, and that the server is alive
abbrev pub all_output : ReportedTurn → State → PortData → List ℕ
all_output t s p =
    expiry_text t.now s (expiry_for p.watch t.over) ++ t.text
    ++ releases_text s (new_releases s p.sent)
    ++ alive_text t.now (lives_in p.watch)

-- all of it is queued, or the connection must be closed
abbrev pub with_report_queued : ReportedTurn → State → PortData → PollPart
with_report_queued t s p =
    if fits_in p.queue (all_output t s p)
    then stays_open (record p {
      queue = p.queue ++ all_output t s p;
      sent = sent_releases_after s p.sent;
      watch = after_alive_answer p.watch;
    }) []
    else must_close QueueFull []

-- after a write of which the link took this
abbrev pub after_write : Option ℕ → PortData → List Call → PollPart
after_write None p calls = must_close LinkFailed calls
after_write (Some n) p calls = stays_open (record p { queue = drop n p.queue }) calls

-- the queue is offered once, if there is anything in it
abbrev pub offer_queue : List ℕ → Option ℕ → PortData → PollPart
offer_queue [] taken p = stays_open p []
offer_queue (b ∷ bs) taken p = after_write taken p (Writes 1 (b ∷ bs) taken ∷ [])

-- the queue is offered once
abbrev pub offer_part : Option ℕ → PortData → PollPart
offer_part taken p = offer_queue p.queue taken p

-- after a read with this result
abbrev pub on_read : ReadOutcome → PortData → List Call → PollPart
on_read (Octets octets) p calls = stays_open (record p { buffer = p.buffer ++ octets }) calls
on_read Silence p calls = stays_open p calls
on_read StreamEnd p calls = must_close Ended calls
on_read Failure p calls = must_close LinkFailed calls

-- if no whole line is buffered, the process is read once, up to 4,096 octets
abbrev pub read_part : ReadOutcome → PortData → PollPart
read_part heard p =
    if is_waiting (first_line_of p.buffer)
    then on_read heard p (Reads 1 4096 heard ∷ [])
    else stays_open p []

-- ---- one after the other

-- a part, and the next one unless the connection must be closed
abbrev pub part_then : Result PortData DisconnectReason → List Call → (PortData → PollPart)
    → PollPart
part_then (Err why) calls next = must_close why calls
part_then (Ok p) calls next =
    record { after = (next p).after; calls = calls ++ (next p).calls }

-- two parts, one after the other
abbrev pub and_then : PollPart → (PortData → PollPart) → PollPart
and_then part next = part_then part.after part.calls next

-- The report of the turn is queued, the process is offered what waits, and it is read.
abbrev pub exchange_part : ReportedTurn → State → Option ℕ × ReadOutcome → PortData → PollPart
exchange_part t s answers p =
    and_then (and_then (with_report_queued t s p) (offer_part answers.0)) (read_part answers.1)

-- ---- after a turn

-- the port, the event of the connection, and the calls on the link
pub record PollOutcome : Type 0 where
  pub port : PortData
  pub connection_event : Option ConnectionEvent
  pub calls : List Call

-- the connection of the process is closed, or it stays
abbrev pub closed_or_open : PortData → Result PortData DisconnectReason → List Call → PollOutcome
closed_or_open before (Ok p) calls = record { port = p; connection_event = None; calls = calls }
closed_or_open before (Err why) calls = record {
  port = with_no_data LossPending before;
  connection_event = Some (Closed why);
  calls = calls ++ Closes 1 ∷ [];
}

-- a connected process is served
abbrev pub connected_outcome : PortData → PollPart → PollOutcome
connected_outcome before part = closed_or_open before part.after part.calls

-- a process that was accepted is greeted, if it is supervised
abbrev pub greet_part : ℕ → State → PortData → PollPart
greet_part now s p =
    if fits_in p.queue (greeting_text now s p.watch)
    then stays_open (record p {
      queue = p.queue ++ greeting_text now s p.watch;
      watch = active_at now p.watch;
    }) []
    else must_close QueueFull []

-- the process is greeted and read twice: if it closed while it waited to be accepted, it has left
-- its last octets, then the end of the stream
abbrev pub first_part : ℕ → State → ReadOutcome × ReadOutcome → PortData → PollPart
first_part now s answers p =
    and_then (and_then (greet_part now s p) (read_part answers.0)) (read_part answers.1)

-- the connection is opened, or closed if it has ended
abbrev pub opened_or_closed : PortData → Result PortData DisconnectReason → List Call → PollOutcome
opened_or_closed before (Ok p) calls =
    record { port = p; connection_event = Some Opened; calls = calls }
opened_or_closed before (Err why) calls =
    record {
      port = with_no_data Absent before;
      connection_event = None;
      calls = calls ++ Closes 1 ∷ [];
    }

-- a process that was greeted is connected, or its connection is closed again
abbrev pub after_greeting : PortData → PollPart → PollOutcome
after_greeting before part = opened_or_closed before part.after part.calls

-- the result with this call before its calls
abbrev pub with_call : Call → PollOutcome → PollOutcome
with_call call a = record a { calls = call ∷ a.calls }

-- a connection that waits is accepted
abbrev pub accept_outcome : ℕ → State → Option (Option SocketAddrV4) → ReadOutcome × ReadOutcome
    → PortData → PollOutcome
accept_outcome now s None heard p =
    record { port = p; connection_event = None; calls = Accepts 1 None ∷ [] }
accept_outcome now s (Some None) heard p =
    record { port = p; connection_event = None; calls = Accepts 1 (Some None) ∷ [] }
accept_outcome now s (Some (Some from)) heard p =
    with_call (Accepts 1 (Some (Some from)))
    (after_greeting p (first_part now s heard (with_no_data Present p)))

-- the port does nothing until a turn has handled the loss of the process
abbrev pub unchanged_outcome : PortData → PollOutcome
unchanged_outcome p = record { port = p; connection_event = None; calls = [] }

-- a process that the turn has dismissed is closed
abbrev pub close_dismissed : DisconnectReason → PortData → PollOutcome
close_dismissed why p = record {
  port = with_no_data Absent p;
  connection_event = Some (Closed why);
  calls = Closes 1 ∷ [];
}

-- what the port does after a turn, by the state of the process
abbrev pub outcome_by_presence : Presence → ReportedTurn → State → Script → PortData → PollOutcome
outcome_by_presence Absent t s script p =
    accept_outcome t.now s script.accepted (script.heard, script.again) p
outcome_by_presence LossPending t s script p = unchanged_outcome p
outcome_by_presence (Dismissed why) t s script p = close_dismissed why p
outcome_by_presence Present t s script p =
    connected_outcome p (exchange_part t s (script.taken, script.heard) p)

-- What the port does after a turn with this report, given the device after the turn.
abbrev pub poll_outcome : ReportedTurn → State → Script → PortData → PollOutcome
poll_outcome t s script p = outcome_by_presence p.presence t s script p

-- ---- as code does it

-- a part resulted in this port, or in this reason; in the second case the port may be any
abbrev pub IsPartResult : Result PortData DisconnectReason → PortData
    → Result (Unit {0}) DisconnectReason
    → Type 0
IsPartResult (Ok p) after (Ok u) = after ≡ p
IsPartResult (Ok p) after (Err why) = ⊥
IsPartResult (Err why) after (Ok u) = ⊥
IsPartResult (Err why) after (Err sent) = sent ≡ why

module _ {L : Type 0} (step : L → Call → L → Type 0) where
  -- a part was done: for some results of the link, the calls and the port after it are those of the
  -- part
  pub record PerformsPart {C : Type 0} (f : C → PortData → PollPart) (old new : L)
      (before after : PortData)
      (answer : Result (Unit {0}) DisconnectReason) : Type 0 where
    pub answers : C
    pub makes : MakesCalls step old (f answers before).calls new
    pub leads : IsPartResult (f answers before).after after answer

  -- For some results of the link, the calls, the port after them and the event of the connection
  -- are these.
  pub record Polls (f : Script → PollOutcome) (old new : L) (after : PortData)
      (connection_event : Option ConnectionEvent)
      : Type 0 where
    pub script : Script
    pub makes : MakesCalls step old (f script).calls new
    pub port : after ≡ (f script).port
    pub connection_event_is : connection_event ≡ (f script).connection_event

  -- the connection of a process that a turn has dismissed was closed
  abbrev pub ClosesDismissed : Presence → L → L → PortData → PortData → Option ConnectionEvent
      → Type 0
  ClosesDismissed (Dismissed why) old new before after connection_event =
      step old (Closes 1) new × (after ≡ with_no_data Absent before)
      × (connection_event ≡ Some (Closed why))
  ClosesDismissed Absent old new before after connection_event = Unit {0}
  ClosesDismissed LossPending old new before after connection_event = Unit {0}
  ClosesDismissed Present old new before after connection_event = Unit {0}
