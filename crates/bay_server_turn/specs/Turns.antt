-- A turn of the server, as a function of what the link and the memory decide.
use Rattle.std.specs.Prelude.{◌≡◌, ℕ, zero, suc, ◌+◌, max, nat_le, Bool, if◌then◌else◌, List, [], ◌∷◌, ◌++◌, length, position, replicate, slice_set, Option, Some, None, is_none, is_some, Result, Ok, Err}
use Rattle.std.specs.List.{slice_index_or}
use Rattle.std.specs.declared.net.socket_addr.SocketAddrV4.{SocketAddrV4}
use Rattle.bay_mms_services.specs.declared.answer.Command.{Command}
use Rattle.bay_mms_services.specs.declared.answer.ControlDecision.{ControlDecision}
use Rattle.bay_device.specs.Code.{step_code_of}
use Rattle.bay_device.specs.Device.{State}
use Rattle.bay_device.specs.Outcomes.{associations, connection_at, outcome, slot_of, Outcome}
use Rattle.bay_device.specs.declared.event.Event.{Event}
use Rattle.bay_device.specs.declared.event.Event.TheVariants.{Open, Recv, Close, Contact, Input, Measure, BadMeasure, Lost, Scan}
use Rattle.bay_device.specs.declared.event.Sent.{Sent}
use Rattle.bay_device.specs.declared.event.Step.{Step}
use Rattle.bay_device.specs.declared.event.Why.{Why}
use Rattle.bay_device.specs.declared.event.Why.TheVariants.{Ended, Fault, Memory}
use Rattle.bay_device.specs.declared.fault.StepFault.{StepFault}
use Rattle.bay_trace.specs.Resolving.{borrow_of}
use Rattle.bay_server_turn.specs.Calls.{Call, Accepts, Reads, Closes, ReadOutcome, Octets, Silence, StreamEnd, Failure}
use Rattle.bay_server_turn.specs.Offers.{Offer, OfferOutcome, offer_outcome}
use Rattle.bay_server_turn.specs.Recorded.{Recording, WritesRecording, recorded}
use Rattle.bay_server_turn.specs.AssociationStates.{after_full, is_full, is_draining, is_close_reported, accepts_replies}
use Rattle.bay_server_turn.specs.declared.process_input.ProcessEvent.{ProcessEvent}
use Rattle.bay_server_turn.specs.declared.process_input.ProcessEvent.TheVariants as process
use Rattle.bay_server_turn.specs.declared.process_input.ProcessReport.{ProcessReport}
use Rattle.bay_server_turn.specs.declared.association_state.AssociationState.{AssociationState}
use Rattle.bay_server_turn.specs.declared.association_state.AssociationState.TheVariants.{Steady, Draining, Closed}
use Rattle.bay_server_turn.specs.declared.record.RecordEnd.{RecordEnd}
use Rattle.bay_server_turn.specs.declared.turn_report.CloseReason.{CloseReason}
use Rattle.bay_server_turn.specs.declared.turn_report.CloseReason.TheVariants as closing

-- the device; for each association the octets that are still to be sent to it; and the record of
-- the session, if it is recorded
pub record ServerData : Type 0 where
  pub device : State
  pub queues : List (List ℕ)
  pub recording : Option Recording

-- a server with another record
abbrev pub with_recording : Option Recording → ServerData → ServerData
with_recording recording h = record h { recording = recording }

-- What was recorded is written, and the server is otherwise as it was. The answer is why the record
-- has ended, if that was not reported before.
pub record WritesRecord (old new : ServerData) (answer : Option RecordEnd) : Type 0 where
  pub took : List ℕ
  pub writes : WritesRecording took old.recording new.recording answer
  pub kept : new ≡ with_recording new.recording old

-- what a turn collects: the state of each association, and the report; for each association what
-- was decided on the controls that it requested, if the device handled octets of it
pub record TurnData : Type 0 where
  pub states : List AssociationState
  pub refused : Option ℕ
  pub commands : List Command
  pub decisions : List (Option (List ControlDecision))
  pub closed : List (ℕ × CloseReason)
  pub memory : List ℕ

-- a turn under way
pub record TurnState : Type 0 where
  pub server : ServerData
  pub noted : TurnData

-- a turn under way, of a server and what the turn has collected
abbrev pub turn_state : ServerData → TurnData → TurnState
turn_state server noted = record { server = server; noted = noted }

-- ---- its parts

-- the queue of an association
abbrev pub server_queue : ℕ → ServerData → List ℕ
server_queue slot h = slice_index_or h.queues slot []

-- the queue of an association within a turn
abbrev pub turn_queue : ℕ → TurnState → List ℕ
turn_queue slot s = server_queue slot s.server

-- an association is open
abbrev pub has_open : ℕ → ServerData → Bool
has_open slot h = is_some (connection_at (Some slot) h.device)

-- an association is open at this point of a turn
abbrev pub is_open_at : ℕ → TurnState → Bool
is_open_at slot s = has_open slot s.server

-- the state of an association within a turn
abbrev pub noted_state : ℕ → TurnData → AssociationState
noted_state slot n = slice_index_or n.states slot Steady

-- the state of an association at this point of a turn
abbrev pub state_at : ℕ → TurnState → AssociationState
state_at slot s = noted_state slot s.noted

-- the state with another device
abbrev pub with_device : State → TurnState → TurnState
with_device device s =
    record { server = record s.server { device = device }; noted = s.noted }

-- a server with another queue of an association
abbrev pub put_queue : ℕ → List ℕ → ServerData → ServerData
put_queue slot queue h = record h { queues = slice_set h.queues slot queue }

-- a turn with another queue of an association
abbrev pub with_queue : ℕ → List ℕ → TurnState → TurnState
with_queue slot queue s = record { server = put_queue slot queue s.server; noted = s.noted }

-- an association has this state from now on
abbrev pub with_state : ℕ → AssociationState → TurnData → TurnData
with_state slot state n = record n { states = slice_set n.states slot state }

-- the state with other data collected
abbrev pub with_noted : TurnData → TurnState → TurnState
with_noted noted s = record { server = s.server; noted = noted }

-- ---- what is reported

-- reports that an association was closed, once
abbrev pub with_closing : ℕ → CloseReason → TurnData → TurnData
with_closing slot closing n =
    if is_close_reported (noted_state slot n) then n
    else record n { closed = n.closed ++ (slot + 1, closing) ∷ [] }

-- reports that it was closed because memory ran out, once
abbrev pub memory_reported : ℕ → TurnData → TurnData
memory_reported slot n =
    if is_close_reported (noted_state slot n)
    then n
    else record n { memory = n.memory ++ (slot + 1) ∷ [] }

-- reports that the device closed it
abbrev pub close_reported : ℕ → Why → TurnData → TurnData
close_reported slot Ended n = with_closing slot closing.Ended n
close_reported slot (Fault code) n = with_closing slot (closing.Fault code) n
close_reported slot Memory n = memory_reported slot n

-- an association was closed, and its queue will be offered once more
abbrev pub start_closing : ℕ → Why → TurnData → TurnData
start_closing slot why n = with_state slot Draining (close_reported slot why n)

-- closed, with an empty queue
abbrev pub mark_closed : ℕ → CloseReason → TurnData → TurnData
mark_closed slot closing n = with_state slot Closed (with_closing slot closing n)

-- ---- what is sent

-- a queue of at most 262,144 octets has room for these too
abbrev pub has_room : List ℕ → List ℕ → Bool
has_room queue octets = nat_le (length queue + length octets) 262144

-- A reply is appended to its queue as a whole. If it does not fit, the queue is left unchanged and
-- the state is marked full.
abbrev pub put_whole : ℕ → List ℕ → TurnState → TurnState
put_whole slot octets s =
    if has_room (turn_queue slot s) octets then with_queue slot (turn_queue slot s ++ octets) s
    else with_noted (with_state slot (after_full (state_at slot s)) s.noted) s

-- an association that accepts replies gets this one
abbrev pub put_at : Option ℕ → List ℕ → TurnState → TurnState
put_at None octets s = s
put_at (Some slot) octets s =
    if accepts_replies (state_at slot s) (is_open_at slot s) then put_whole slot octets s else s

-- what the device sends is queued for its association
abbrev pub put_sent : Sent → TurnState → TurnState
put_sent sent s = put_at (slot_of sent.association) sent.octets s

-- everything that is sent, in order
abbrev pub put_all : List Sent → TurnState → TurnState
put_all [] s = s
put_all (sent ∷ more) s = put_all more (put_sent sent s)

-- the report that an operation ended, if there is one, is queued
abbrev pub put_ended : Option Sent → TurnState → TurnState
put_ended None s = s
put_ended (Some sent) s = put_sent sent s

-- ---- steps of the device

-- An event is recorded, if the session is; an event of the process with the line that it was read
-- from.
abbrev pub with_recorded : ℕ → List ℕ → Event → TurnState → TurnState
with_recorded now source event s = record {
  server = record s.server { recording = recorded now source event s.server.recording };
  noted = s.noted;
}

-- after an event that sends nothing but the report that an operation ended
abbrev pub put_quiet : Result Step StepFault → TurnState → TurnState
put_quiet (Err fault) s = s
put_quiet (Ok step) s = put_ended step.ended s

-- the state after an outcome that sends nothing but the report that an operation ended, with this
-- report in its queue
abbrev pub quiet_after : Outcome → TurnState → TurnState
quiet_after o s = put_quiet o.answer (with_device o.after s)

-- an event at a turn's moment
abbrev pub after_event : ℕ → Event → TurnState → TurnState
after_event now event s =
    with_recorded now [] event (quiet_after (outcome None now event s.server.device) s)

-- An association is closed at once, and the rest of its queue is lost.
unfoldable pub close_at_once : ℕ → CloseReason → ℕ → TurnState → TurnState
close_at_once now closing slot s =
    let t = after_event now (Close (slot + 1)) s in
    with_noted (mark_closed slot closing t.noted) (with_queue slot [] t)

-- the lowest association to which a reply did not fit
abbrev pub first_full : TurnData → Option ℕ
first_full n = position is_full n.states

-- Each association to which a reply did not fit is closed. A closing can fill the queue of another,
-- so the search is repeated, at most n times.
abbrev pub after_closing_next_full : ℕ → Option ℕ → TurnState → (TurnState → TurnState) → TurnState
after_closing_next_full now None s later = s
after_closing_next_full now (Some slot) s later =
    later (close_at_once now closing.QueueFull slot s)

-- at most n of them, the lowest first
abbrev pub after_closing_some_full : ℕ → ℕ → TurnState → TurnState
after_closing_some_full now zero s = s
after_closing_some_full now (suc count) s =
    after_closing_next_full now (first_full s.noted) s (after_closing_some_full now count)

-- the calls that close them
abbrev pub calls_closing_next_full : ℕ → Option ℕ → TurnState → (TurnState → List Call) → List Call
calls_closing_next_full now None s later = []
calls_closing_next_full now (Some slot) s later =
    Closes (slot + 1) ∷ later (close_at_once now closing.QueueFull slot s)

-- the calls that close at most n of them, the lowest first
abbrev pub calls_closing_some_full : ℕ → ℕ → TurnState → List Call
calls_closing_some_full now zero s = []
calls_closing_some_full now (suc count) s =
    calls_closing_next_full now (first_full s.noted) s (calls_closing_some_full now count)

-- all of them: after eight none is left
unfoldable pub after_closing_full : ℕ → TurnState → TurnState
after_closing_full now s = after_closing_some_full now associations s

-- the calls of all eight
unfoldable pub calls_closing_full : ℕ → TurnState → List Call
calls_closing_full now s = calls_closing_some_full now associations s

-- ---- a connection that waits

-- the lowest association that is free
abbrev pub lowest_free_association : ServerData → Option ℕ
lowest_free_association h = position is_none h.device.connections

-- the state after an association was opened
abbrev pub after_opening : ℕ → ℕ → TurnState → TurnState
after_opening now slot s = after_event now (Open (slot + 1)) s

-- a connection that was accepted opens the association
abbrev pub on_accept : ℕ → Option ℕ → Option (Option SocketAddrV4) → TurnState → TurnState
on_accept now None taken s = s
on_accept now (Some slot) None s = s
on_accept now (Some slot) (Some None) s = s
on_accept now (Some slot) (Some (Some from)) s = after_closing_full now (after_opening now slot s)

-- the calls on the link to accept a connection; if no association is free, none is made
abbrev pub accept_calls_at : ℕ → Option ℕ → Option (Option SocketAddrV4) → TurnState → List Call
accept_calls_at now None taken s = []
accept_calls_at now (Some slot) None s = Accepts (slot + 1) None ∷ []
accept_calls_at now (Some slot) (Some None) s = Accepts (slot + 1) (Some None) ∷ []
accept_calls_at now (Some slot) (Some (Some from)) s =
    Accepts (slot + 1) (Some (Some from)) ∷ calls_closing_full now (after_opening now slot s)

-- the association that is opened, and the address of its client
abbrev pub opening_at : Option ℕ → Option (Option SocketAddrV4) → Option (ℕ × SocketAddrV4)
opening_at None taken = None
opening_at (Some slot) None = None
opening_at (Some slot) (Some None) = None
opening_at (Some slot) (Some (Some from)) = Some (slot + 1, from)

-- the association that a turn opens, and the address of its client
abbrev pub opening_of : Option (Option SocketAddrV4) → ServerData → Option (ℕ × SocketAddrV4)
opening_of taken h = opening_at (lowest_free_association h) taken

-- One connection that waits is accepted, under the lowest free number.
abbrev pub with_accept : ℕ → Option (Option SocketAddrV4) → TurnState → TurnState
with_accept now taken s = on_accept now (lowest_free_association s.server) taken s

-- the calls on the link to accept a connection
abbrev pub accept_calls : ℕ → Option (Option SocketAddrV4) → TurnState → List Call
accept_calls now taken s = accept_calls_at now (lowest_free_association s.server) taken s

-- ---- reading

-- What an association brought: the result of the read, and, if memory ran out for its octets, after
-- how many of their indications.
pub record Reading : Type 0 where
  pub heard : ReadOutcome
  pub choice : Option ℕ

-- the device closed it, or not
abbrev pub start_closing_if_closed : ℕ → Option (ℕ × Why) → TurnData → TurnData
start_closing_if_closed slot None n = n
start_closing_if_closed slot (Some closed) n = start_closing slot closed.1 n

-- the turn after the device closed an association, or did not
abbrev pub after_device_close : ℕ → Option (ℕ × Why) → TurnState → TurnState
after_device_close slot closed s = with_noted (start_closing_if_closed slot closed s.noted) s

-- switch commands that were issued in this turn
abbrev pub with_commands : List Command → TurnState → TurnState
with_commands commands s = with_noted (record s.noted { commands = s.noted.commands ++ commands }) s

-- what was decided on controls that an association requested
abbrev pub with_decisions : ℕ → List ControlDecision → TurnData → TurnData
with_decisions slot decisions n =
    record n { decisions = slice_set n.decisions slot (Some decisions) }

-- the device's answer to octets: whether it closed the association, what it sends, its commands,
-- and its decisions
abbrev pub put_answer : ℕ → Result Step StepFault → TurnState → TurnState
put_answer slot (Err fault) s = s
put_answer slot (Ok step) s =
    let t : TurnState =
    with_commands step.commands
    (put_all step.sent (put_ended step.ended (after_device_close slot step.closed s))) in
    with_noted (with_decisions slot step.decisions t.noted) t

-- the state after the outcome of an association's octets
abbrev pub answer_after : ℕ → Outcome → TurnState → TurnState
answer_after slot o s = put_answer slot o.answer (with_device o.after s)

-- octets of an association are handled
abbrev pub after_octets : ℕ → ℕ → Option ℕ → List ℕ → TurnState → TurnState
after_octets now slot choice octets s =
    with_recorded now [] (Recv (slot + 1) (borrow_of octets))
    (answer_after slot (outcome choice now (Recv (slot + 1) (borrow_of octets)) s.server.device) s)

-- the client sends no more
abbrev pub after_end : ℕ → ℕ → TurnState → TurnState
after_end now slot s =
    after_event now (Close (slot + 1)) (with_noted (start_closing slot Ended s.noted) s)

-- after a read with this result
abbrev pub on_read : ℕ → ℕ → Option ℕ → ReadOutcome → TurnState → TurnState
on_read now slot choice (Octets octets) s =
    after_closing_full now (after_octets now slot choice octets s)
on_read now slot choice Silence s = s
on_read now slot choice StreamEnd s = after_closing_full now (after_end now slot s)
on_read now slot choice Failure s =
    after_closing_full now (close_at_once now closing.LinkFailed slot s)

-- the calls on the link after the read
abbrev pub calls_on_read : ℕ → ℕ → Option ℕ → ReadOutcome → TurnState → List Call
calls_on_read now slot choice (Octets octets) s =
    calls_closing_full now (after_octets now slot choice octets s)
calls_on_read now slot choice Silence s = []
calls_on_read now slot choice StreamEnd s = calls_closing_full now (after_end now slot s)
calls_on_read now slot choice Failure s =
    Closes (slot + 1) ∷ calls_closing_full now (close_at_once now closing.LinkFailed slot s)

-- An open association is read once, up to 4,096 octets.
abbrev pub read_one : ℕ → ℕ → Reading → TurnState → TurnState
read_one now slot r s = if is_open_at slot s then on_read now slot r.choice r.heard s else s

-- the calls on the link to read an association
abbrev pub read_calls : ℕ → ℕ → Reading → TurnState → List Call
read_calls now slot r s =
    if is_open_at slot s
    then Reads (slot + 1) 4096 r.heard ∷ calls_on_read now slot r.choice r.heard s
    else []

-- ---- the process and the scan

-- an event of the process, as an event of a device
abbrev pub event_of : ProcessEvent → Event
event_of (process.Contact k position) = Contact k position
event_of (process.Input k value) = Input k value
event_of (process.Measure k field value) = Measure k field value
event_of (process.BadMeasure k field) = BadMeasure k field
event_of process.Lost = Lost

-- an event that the device refuses is reported
abbrev pub record_refusal : Result Step StepFault → TurnState → TurnState
record_refusal (Err fault) s = with_noted (record s.noted { refused = Some (step_code_of fault) }) s
record_refusal (Ok step) s = put_ended step.ended s

-- the state after the outcome of an event of the process, whose refusal is reported
abbrev pub after_reported : Outcome → TurnState → TurnState
after_reported o s = record_refusal o.answer (with_device o.after s)

-- an event of the process is applied at the turn's moment; it was read from this line
abbrev pub after_process_event : ℕ → List ℕ → ProcessEvent → TurnState → TurnState
after_process_event now source event s =
    with_recorded now source (event_of event)
    (after_reported (outcome None now (event_of event) s.server.device) s)

-- the event that a turn applies before it reads: the loss of the process, if it is lost
abbrev pub loss_event : ProcessReport → Option ProcessEvent
loss_event given = if given.is_lost then Some process.Lost else None

-- the event of the process is applied, if there is one
abbrev pub with_event : ℕ → List ℕ → Option ProcessEvent → TurnState → TurnState
with_event now source None s = s
with_event now source (Some event) s =
    after_closing_full now (after_process_event now source event s)

-- the calls on the link after the event of the process, if there is one
abbrev pub event_calls : ℕ → List ℕ → Option ProcessEvent → TurnState → List Call
event_calls now source None s = []
event_calls now source (Some event) s =
    calls_closing_full now (after_process_event now source event s)

-- the program runs once
abbrev pub after_turn_scan : ℕ → TurnState → TurnState
after_turn_scan now s = after_closing_full now (after_event now Scan s)

-- the calls on the link after the scan
abbrev pub scan_calls : ℕ → TurnState → List Call
scan_calls now s = calls_closing_full now (after_event now Scan s)

-- ---- offering

-- the outcome of offering the queue of an association
abbrev pub queue_offer : ℕ → Offer → TurnState → OfferOutcome
queue_offer slot o s = offer_outcome (slot + 1) (turn_queue slot s) o.takes o.fails

-- after an offer: the association is closed if a write failed; otherwise the queue holds what the
-- link did not take
abbrev pub after_offer : ℕ → ℕ → OfferOutcome → TurnState → TurnState
after_offer now slot o s =
    if o.failed then after_closing_full now (close_at_once now closing.LinkFailed slot s)
    else with_queue slot o.left s

-- it is closed, and its queue empty
abbrev pub after_closing : ℕ → TurnState → TurnState
after_closing slot s =
    record { server = put_queue slot [] s.server; noted = with_state slot Closed s.noted }

-- The queue of an association is offered. If the association was closed, what the link does not
-- take is lost.
abbrev pub offer_one : ℕ → ℕ → Offer → TurnState → TurnState
offer_one now slot o s =
    if is_draining (state_at slot s) then after_closing slot s
    else (if is_open_at slot s then after_offer now slot (queue_offer slot o s) s else s)

-- the calls after an offer: if a write failed, the association is closed
abbrev pub offer_end : ℕ → ℕ → Bool → TurnState → List Call
offer_end now slot failed s =
    if failed
    then Closes (slot + 1)
    ∷ calls_closing_full now (close_at_once now closing.LinkFailed slot s)
    else []

-- the calls on the link for an offer
abbrev pub offer_calls : ℕ → ℕ → Offer → TurnState → List Call
offer_calls now slot o s =
    if is_draining (state_at slot s) then (queue_offer slot o s).calls ++ Closes (slot + 1) ∷ []
    else (if is_open_at slot s then (queue_offer slot o s).calls
    ++ offer_end now slot (queue_offer slot o s).failed s else [])

-- ---- a turn

-- for one association after another
abbrev pub after_each : {C : Type 0} → (ℕ → C → TurnState → TurnState) → ℕ → List C → TurnState
    → TurnState
after_each f slot [] s = s
after_each f slot (c ∷ cs) s = after_each f (slot + 1) cs (f slot c s)

-- the calls for one association after another
abbrev pub calls_of_each : {C : Type 0} → (ℕ → C → TurnState → TurnState)
    → (ℕ → C → TurnState → List Call) → ℕ → List C → TurnState → List Call
calls_of_each f calls slot [] s = []
calls_of_each f calls slot (c ∷ cs) s =
    calls slot c s ++ calls_of_each f calls (slot + 1) cs (f slot c s)

-- all that a turn does not decide itself: the line that the event of the process was read from,
-- whether a connection waited, what each association brought, and what the link took of each queue
pub record Script : Type 0 where
  pub source : List ℕ
  pub accepted : Option (Option SocketAddrV4)
  pub readings : List Reading
  pub offers : List Offer

-- a turn's moment is the later of the clock's and the device's last
abbrev pub moment_at : ℕ → ServerData → ℕ
moment_at clock h = max clock h.device.moment

-- nothing is collected yet, and no association is closed
abbrev pub nothing_noted : TurnData
nothing_noted =
    record {
      states = replicate associations Steady;
      refused = None;
      commands = [];
      decisions = replicate associations None;
      closed = [];
      memory = [];
    }

-- a turn begins
abbrev pub turn_begin : ServerData → TurnState
turn_begin h = turn_state h nothing_noted

-- the state after each part of a turn
abbrev pub after_accept : ℕ → Script → ServerData → TurnState
after_accept now script h = with_accept now script.accepted (turn_begin h)

-- after the loss of the process, if it is lost
abbrev pub after_loss : ℕ → ProcessReport → Script → ServerData → TurnState
after_loss now given script h =
    with_event now script.source (loss_event given) (after_accept now script h)

-- after the reads
abbrev pub after_reads : ℕ → ProcessReport → Script → ServerData → TurnState
after_reads now given script h =
    after_each (read_one now) 0 script.readings (after_loss now given script h)

-- after the event of the process, if there is one
abbrev pub after_line : ℕ → ProcessReport → Script → ServerData → TurnState
after_line now given script h =
    with_event now script.source given.event (after_reads now given script h)

-- after the scan
abbrev pub after_scan : ℕ → ProcessReport → Script → ServerData → TurnState
after_scan now given script h = after_turn_scan now (after_line now given script h)

-- A turn: accepts one connection; reports the loss of the process to the device, if the process is
-- lost; reads each association; applies the line; runs the program once; and offers each queue to
-- the link.
abbrev pub after_turn : ℕ → ProcessReport → Script → ServerData → TurnState
after_turn now given script h =
    after_each (offer_one now) 0 script.offers (after_scan now given script h)

-- the calls on the link, in their order
abbrev pub turn_calls : ℕ → ProcessReport → Script → ServerData → List Call
turn_calls now given script h =
    accept_calls now script.accepted (turn_begin h)
    ++ event_calls now script.source (loss_event given) (after_accept now script h)
    ++ calls_of_each (read_one now) (read_calls now) 0 script.readings
    (after_loss now given script h)
    ++ event_calls now script.source given.event (after_reads now given script h)
    ++ scan_calls now (after_line now given script h)
    ++ calls_of_each (offer_one now) (offer_calls now) 0 script.offers
    (after_scan now given script h)
