-- The events that a turn applies to the device, in their order, each with its choice; and their
-- answers.
use Rattle.std.specs.Prelude.{◌≡◌, ℕ, zero, suc, ◌+◌, Bool, if◌then◌else◌, List, [], ◌∷◌, ◌++◌, Option, Some, None, Result, Ok, Err}
use Rattle.std.specs.declared.net.socket_addr.SocketAddrV4.{SocketAddrV4}
use Rattle.bay_mms_services.specs.declared.answer.Command.{Command}
use Rattle.bay_device.specs.Device.{State}
use Rattle.bay_device.specs.Outcomes.{Outcomes, outcomes}
use Rattle.bay_device.specs.declared.event.Event.{Event}
use Rattle.bay_device.specs.declared.event.Event.TheVariants.{Open, Recv, Close, Scan}
use Rattle.bay_device.specs.declared.event.Step.{Step}
use Rattle.bay_device.specs.declared.fault.StepFault.{StepFault}
use Rattle.bay_trace.specs.Resolving.{borrow_of}
use Rattle.bay_server_turn.specs.Calls.{ReadOutcome, Octets, Silence, StreamEnd, Failure}
use Rattle.bay_server_turn.specs.Offers.{Offer}
use Rattle.bay_server_turn.specs.AssociationStates.{is_draining}
use Rattle.bay_server_turn.specs.Turns.{ServerData, Reading, Script, TurnState, after_accept, after_loss, after_line, after_reads, after_scan, turn_begin, close_at_once, first_full, loss_event, lowest_free_association, after_end, is_open_at, queue_offer, offer_one, after_opening, read_one, state_at, after_event, event_of, after_octets, after_process_event, after_turn}
use Rattle.bay_server_turn.specs.declared.process_input.ProcessEvent.{ProcessEvent}
use Rattle.bay_server_turn.specs.declared.process_input.ProcessReport.{ProcessReport}
use Rattle.bay_server_turn.specs.declared.turn_report.CloseReason.TheVariants as closing

-- an event with its choice: after how many indications of its octets memory ran out, if it did
abbrev pub ChosenEvent : Type 0
ChosenEvent = Option ℕ × Event

-- an event in which memory does not run out
abbrev pub with_memory : Event → ChosenEvent
with_memory event = (None, event)

-- the event that closes an association
abbrev pub closing_of : ℕ → ChosenEvent
closing_of slot = with_memory (Close (slot + 1))

-- ---- the events of the parts of a turn

-- the closing of each association to which a reply did not fit
abbrev pub events_closing_next_full : ℕ → Option ℕ → TurnState → (TurnState → List ChosenEvent)
    → List ChosenEvent
events_closing_next_full now None s later = []
events_closing_next_full now (Some slot) s later =
    closing_of slot ∷ later (close_at_once now closing.QueueFull slot s)

-- at most n of them, the lowest first
abbrev pub events_closing_some_full : ℕ → ℕ → TurnState → List ChosenEvent
events_closing_some_full now zero s = []
events_closing_some_full now (suc count) s =
    events_closing_next_full now (first_full s.noted) s (events_closing_some_full now count)

-- all of them: after eight none is left
unfoldable pub events_closing_full : ℕ → TurnState → List ChosenEvent
events_closing_full now s = events_closing_some_full now 8 s

-- a connection that was accepted opens an association
abbrev pub accept_events_at : ℕ → Option ℕ → Option (Option SocketAddrV4) → TurnState
    → List ChosenEvent
accept_events_at now None taken s = []
accept_events_at now (Some slot) None s = []
accept_events_at now (Some slot) (Some None) s = []
accept_events_at now (Some slot) (Some (Some from)) s =
    with_memory (Open (slot + 1)) ∷ events_closing_full now (after_opening now slot s)

-- the events of a connection that is accepted
abbrev pub accept_events : ℕ → Option (Option SocketAddrV4) → TurnState → List ChosenEvent
accept_events now taken s = accept_events_at now (lowest_free_association s.server) taken s

-- octets of a client arrive, or its association is closed
abbrev pub events_on_read : ℕ → ℕ → Option ℕ → ReadOutcome → TurnState → List ChosenEvent
events_on_read now slot choice (Octets octets) s =
    (choice, Recv (slot + 1) (borrow_of octets))
    ∷ events_closing_full now (after_octets now slot choice octets s)
events_on_read now slot choice Silence s = []
events_on_read now slot choice StreamEnd s =
    closing_of slot ∷ events_closing_full now (after_end now slot s)
events_on_read now slot choice Failure s =
    closing_of slot ∷ events_closing_full now (close_at_once now closing.LinkFailed slot s)

-- an association is read if it is open
abbrev pub read_events : ℕ → ℕ → Reading → TurnState → List ChosenEvent
read_events now slot r s =
    if is_open_at slot s then events_on_read now slot r.choice r.heard s else []

-- an event of the process, if there is one; it was read from this line
abbrev pub line_events : ℕ → List ℕ → Option ProcessEvent → TurnState → List ChosenEvent
line_events now source None s = []
line_events now source (Some event) s =
    with_memory (event_of event)
    ∷ events_closing_full now (after_process_event now source event s)

-- the program runs once
abbrev pub scan_events : ℕ → TurnState → List ChosenEvent
scan_events now s = with_memory Scan ∷ events_closing_full now (after_event now Scan s)

-- an association is closed if a write fails
abbrev pub failed_events : ℕ → ℕ → Bool → TurnState → List ChosenEvent
failed_events now slot failed s =
    if failed
    then closing_of slot ∷ events_closing_full now (close_at_once now closing.LinkFailed slot s)
    else []

-- the queue of an association is offered; the association is closed if a write fails
abbrev pub offer_events : ℕ → ℕ → Offer → TurnState → List ChosenEvent
offer_events now slot o s =
    if is_draining (state_at slot s) then []
    else (if is_open_at slot s then failed_events now slot (queue_offer slot o s).failed s else [])

-- ---- the events of a turn

-- the events for one association after another
abbrev pub events_of_each : {C : Type 0} → (ℕ → C → TurnState → TurnState)
    → (ℕ → C → TurnState → List ChosenEvent) → ℕ → List C → TurnState → List ChosenEvent
events_of_each f events slot [] s = []
events_of_each f events slot (c ∷ cs) s =
    events slot c s ++ events_of_each f events (slot + 1) cs (f slot c s)

-- the events of a turn, in their order
abbrev pub turn_events : ℕ → ProcessReport → Script → ServerData → List ChosenEvent
turn_events now given script h =
    accept_events now script.accepted (turn_begin h)
    ++ line_events now script.source (loss_event given) (after_accept now script h)
    ++ events_of_each (read_one now) (read_events now) 0 script.readings
    (after_loss now given script h)
    ++ line_events now script.source given.event (after_reads now given script h)
    ++ scan_events now (after_line now given script h)
    ++ events_of_each (offer_one now) (offer_events now) 0 script.offers
    (after_scan now given script h)

-- ---- their answers

-- the choices of events
abbrev pub choices_of : List ChosenEvent → List (Option ℕ)
choices_of [] = []
choices_of (e ∷ es) = e.0 ∷ choices_of es

-- the events, each at this moment
abbrev pub events_at : ℕ → List ChosenEvent → List (ℕ × Event)
events_at now [] = []
events_at now (e ∷ es) = (now, e.1) ∷ events_at now es

-- the answers to events, all at one moment, and the device after them
abbrev pub outcomes_at : ℕ → List ChosenEvent → State → Outcomes
outcomes_at now events s = outcomes (choices_of events) (events_at now events) s

-- the commands of an answer; a refused event has none
abbrev pub answer_commands : Result Step StepFault → List Command
answer_commands (Err fault) = []
answer_commands (Ok step) = step.commands

-- the commands of answers, in their order
abbrev pub commands_of : List (Result Step StepFault) → List Command
commands_of [] = []
commands_of (answer ∷ answers) = answer_commands answer ++ commands_of answers

-- The device after a turn is the device after the turn's events, and the commands that the turn
-- reports are those of their answers.
pub record TurnIsItsEvents (now : ℕ) (given : ProcessReport) (script : Script) (h : ServerData)
    : Type 0 where
  pub device : (after_turn now given script h).server.device
      ≡ (outcomes_at now (turn_events now given script h) h.device).after
  pub commands : (after_turn now given script h).noted.commands
      ≡ commands_of (outcomes_at now (turn_events now given script h) h.device).answers
