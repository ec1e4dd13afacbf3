-- The order of a turn's events, by what the link brought, by the line, and by the device at each
-- event.
use Rattle.std.specs.Prelude.{◌≡◌, ℕ, ◌+◌, ◌||◌, Bool, true, if◌then◌else◌, All, List, [], ◌∷◌, ◌++◌, position, is_none, is_some, Option, Some, None}
use Rattle.std.specs.declared.net.socket_addr.SocketAddrV4.{SocketAddrV4}
use Rattle.bay_device.specs.Device.{State}
use Rattle.bay_device.specs.Outcomes.{connection_at}
use Rattle.bay_device.specs.declared.event.Event.TheVariants.{Open, Recv, Close, Scan}
use Rattle.bay_trace.specs.Resolving.{borrow_of}
use Rattle.bay_server_turn.specs.Calls.{ReadOutcome, Octets, Silence, StreamEnd, Failure}
use Rattle.bay_server_turn.specs.Turns.{ServerData, Reading, Script, after_turn, event_of, loss_event, turn_calls}
use Rattle.bay_server_turn.specs.declared.process_input.ProcessEvent.{ProcessEvent}
use Rattle.bay_server_turn.specs.declared.process_input.ProcessReport.{ProcessReport}
use Rattle.bay_server_turn.specs.declared.turn_report.CloseReason.{CloseReason}
use Rattle.bay_server_turn_laws.specs.Causes.{fails_for, has_some, is_queue_full, reports_close}
use Rattle.bay_server_turn_laws.specs.Events.{ChosenEvent, outcomes_at, with_memory, turn_events}

-- ---- what each part of a turn does

-- an association that is free is opened, if a connection was accepted
abbrev pub open_events_at : Option ℕ → Option (Option SocketAddrV4) → List ChosenEvent
open_events_at (Some slot) (Some (Some from)) = with_memory (Open (slot + 1)) ∷ []
open_events_at (Some slot) (Some None) = []
open_events_at (Some slot) None = []
open_events_at None accepted = []

-- A connection that was accepted opens the lowest free association.
abbrev pub open_events : Option (Option SocketAddrV4) → State → List ChosenEvent
open_events accepted d = open_events_at (position is_none d.connections) accepted

-- Octets that were read are received in one event; an end and a failure close the association.
abbrev pub received_events : ℕ → Option ℕ → ReadOutcome → List ChosenEvent
received_events a choice (Octets octets) = (choice, Recv a (borrow_of octets)) ∷ []
received_events a choice Silence = []
received_events a choice StreamEnd = with_memory (Close a) ∷ []
received_events a choice Failure = with_memory (Close a) ∷ []

-- An association is read exactly if it is open.
abbrev pub events_of_read : ℕ → Reading → State → List ChosenEvent
events_of_read slot r d =
    if is_some (connection_at (Some slot) d)
    then received_events (slot + 1) r.choice r.heard
    else []

-- The event of the process, if there is one.
abbrev pub process_events : Option ProcessEvent → List ChosenEvent
process_events None = []
process_events (Some event) = with_memory (event_of event) ∷ []

-- ---- the order

-- The event closes an association for which there is a reason.
abbrev pub IsClosing : (ℕ → Bool) → ChosenEvent → Type 0
IsClosing has_reason e = (a : ℕ) × (e ≡ with_memory (Close a)) × (has_reason a ≡ true)

-- Each of the events closes an association for which there is a reason.
abbrev pub AreClosings : (ℕ → Bool) → List ChosenEvent → Type 0
AreClosings has_reason events = All (IsClosing has_reason) events

module _ (now : ℕ) (reported : List (ℕ × CloseReason)) where
  -- First come these events; then closings of associations whose queues were full; and then the
  -- rest, from the device after those.
  pub record FirstThen (first : List ChosenEvent) (Rest : State → List ChosenEvent → Type 0)
      (d : State)
      (events : List ChosenEvent) : Type 0 where
    pub cut : List ChosenEvent
    pub rest : List ChosenEvent
    pub is : events ≡ first ++ cut ++ rest
    pub closings : AreClosings (λ a. reports_close is_queue_full a reported) cut
    pub rest_holds : Rest (outcomes_at now (first ++ cut) d).after rest

  -- Each association is read, one after the other.
  abbrev pub ReadsThen : ℕ → List Reading → (State → List ChosenEvent → Type 0) → State
      → List ChosenEvent → Type 0
  ReadsThen slot [] Rest d events = Rest d events
  ReadsThen slot (r ∷ rs) Rest d events =
      FirstThen (events_of_read slot r d) (ReadsThen (slot + 1) rs Rest) d events

  -- A connection is opened; the loss of the process is reported, if it is lost; each association is
  -- read; the line is applied; and the program runs once. After that there are only closings of
  -- associations, for a reason.
  abbrev pub AreInOrder : (ℕ → Bool) → ProcessReport → Script → State → List ChosenEvent → Type 0
  AreInOrder has_reason given script d events =
      FirstThen (open_events script.accepted d) (λ c. FirstThen (process_events (loss_event given))
      (ReadsThen 0 script.readings
      (λ e. FirstThen (process_events given.event)
      (FirstThen (with_memory Scan ∷ []) (λ f rest. AreClosings has_reason rest))
      e)) c)
      d
      events

-- The events of a turn are in this order. At its end it closes only associations whose queues were
-- full, or for which a call on the link failed.
abbrev pub IsInOrder : ℕ → ProcessReport → Script → ServerData → Type 0
IsInOrder now given script h =
    let reported = (after_turn now given script h).noted.closed in
    AreInOrder now reported
    (λ a. reports_close is_queue_full a reported
    || has_some (fails_for a) (turn_calls now given script h))
    given
    script h.device (turn_events now given script h)
