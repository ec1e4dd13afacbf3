-- The requests of clients on a device's controls, and which of them are accepted, by events and
-- answers alone: by the octets received and the octets sent. The definitions do not use the state
-- of the device.
use Rattle.std.specs.Prelude.{ℕ, ◌≡◌, Bool, List, [], ◌∷◌, ◌++◌, map, slice_get, slice_set, unwrap_or, Option, None, Some, Result, Ok, Err}
use Rattle.bay_base.specs.Options.{◌>>=◌}
use Rattle.bay_ber.specs.Values.{content_with_tag, value_in, values_in}
use Rattle.bay_mms.specs.Grammar.{request_in}
use Rattle.bay_ber.specs.Tags.{constructed, sequence}
use Rattle.bay_transport.specs.Doings.{Doing, Answers, Delivers, Ends, Fails, Going, run_of}
use Rattle.bay_assoc.specs.Session.{Spdu, connect, accept, finish, disconnect, abort, transfer, spdu_in}
use Rattle.bay_assoc.specs.Sized.{IsSized}
use Rattle.bay_assoc.specs.Tags.{application}
use Rattle.bay_connection.specs.ConnectionStates.{Indication, ConnectionState, answers, delivers, releases, ends, fails, indications, connection_after}
use Rattle.bay_control.specs.Acts.{Opened, Closed, Entry}
use Rattle.bay_control.specs.Decisions as control
use Rattle.bay_control.specs.TimedCalls.{LeadsControls}
use Rattle.bay_mms_services.specs.ObservedEntries.{AreNamedAlike, observed_in_pdu, part_after_id, first_response, request_may_report}
use Rattle.bay_mms_services.specs.Bay.{Bay}
use Rattle.bay_device.specs.Device.{State, bay_of}
use Rattle.bay_device.specs.Entries.{opens, entries_of_act}
use Rattle.bay_device.specs.Outcomes.{initial_connection, slot_of}
use Rattle.bay_device.specs.declared.event.Event.{Event}
use Rattle.bay_device.specs.declared.event.Event.TheVariants.{Open, Recv, Close, Contact, Input, Measure, BadMeasure, Lost, Scan}
use Rattle.bay_device.specs.declared.event.Sent.{Sent}
use Rattle.bay_device.specs.declared.event.Step.{Step}
use Rattle.bay_device.specs.declared.event.Why.{Why}
use Rattle.bay_device.specs.declared.fault.StepFault.{StepFault}

-- ---- the PDU of MMS in octets sent

-- the TSDU of some octets, if they have exactly one
abbrev pub only_tsdu : List Doing → Option (List ℕ)
only_tsdu [] = None
only_tsdu (Answers size reply ∷ doings) = None
only_tsdu (Delivers tsdu ∷ []) = Some tsdu
only_tsdu (Delivers tsdu ∷ doing ∷ doings) = None
only_tsdu (Ends ∷ doings) = None
only_tsdu (Fails fault ∷ doings) = None

-- the TSDU of data TPDUs, on an open connection
abbrev pub tsdu_in : List ℕ → Option (List ℕ)
tsdu_in octets =
    only_tsdu (run_of 0 (Going (record { size = Some 0; group = [] }) []) octets).doings

-- the user data of a DATA TRANSFER
abbrev pub user_data : Spdu → Option (List ℕ)
user_data (connect user) = None
user_data accept = None
user_data (finish user) = None
user_data disconnect = None
user_data abort = None
user_data (transfer user) = Some user

-- the value in a presentation context
abbrev pub value_of : List ℕ → Option (List ℕ)
value_of user =
    value_in user >>= content_with_tag (application 1) >>= value_in >>= content_with_tag sequence
    >>= values_in
    >>= part_after_id >>= content_with_tag (constructed 0)

-- the PDU of MMS in octets; empty if there is none
abbrev pub pdu_in : List ℕ → List ℕ
pdu_in octets = unwrap_or (tsdu_in octets >>= spdu_in >>= user_data >>= value_of) []

-- the PDUs of all octets that are sent
abbrev pub pdus_in : List Sent → List (List ℕ)
pdus_in sent = map (λ s. pdu_in s.octets) sent

-- ---- octets received

-- the PDUs after the first
abbrev pub pdus_after_first : List (List ℕ) → List (List ℕ)
pdus_after_first [] = []
pdus_after_first (pdu ∷ pdus) = pdus

-- The entries of the indications, in their order, with the PDUs that were sent: each request and
-- each PDU of MMS has its answer among them. If nothing was sent, nothing was accepted.
abbrev pub observed_in_pdus : ℕ → ℕ → Bay → List Indication → List (List ℕ) → List Entry
observed_in_pdus now a names [] pdus = []
observed_in_pdus now a names (answers octets ∷ is) pdus =
    observed_in_pdus now a names is (pdus_after_first pdus)
observed_in_pdus now a names (delivers terms pdu ∷ is) pdus =
    let response = first_response (request_may_report (request_in pdu)) pdus in
    observed_in_pdu now a pdu names response.0 ++ observed_in_pdus now a names is response.1
observed_in_pdus now a names (releases octets ∷ is) pdus = []
observed_in_pdus now a names (ends ∷ is) pdus = []
observed_in_pdus now a names (fails code ∷ is) pdus = []

-- the entries of octets; none if the association is not open
abbrev pub observed_in_recv : ℕ → ℕ → Bay → List ℕ → Option ConnectionState → List Sent → List Entry
observed_in_recv now a names octets None sent = []
observed_in_recv now a names octets (Some connection) sent =
    observed_in_pdus now a names (indications connection octets) (pdus_in sent)

-- the entry of an association that the device reports as closed
abbrev pub observed_in_close : ℕ → Option (ℕ × Why) → List Entry
observed_in_close now None = []
observed_in_close now (Some closed) = entries_of_act now (Closed closed.0)

-- ---- events and their answers

-- the state of an association's connection, among those of all
abbrev pub connection_state_at : Option ℕ → List (Option ConnectionState) → Option ConnectionState
connection_state_at None connections = None
connection_state_at (Some slot) connections = unwrap_or (slice_get connections slot) None

-- the states of all connections, with one of them replaced, if it has an index
abbrev pub with_connection_state : Option ℕ → Option ConnectionState → List (Option ConnectionState)
    → List (Option ConnectionState)
with_connection_state None connection connections = connections
with_connection_state (Some slot) connection connections = slice_set connections slot connection

-- the entries of an event that is not refused
abbrev pub observed_in_step : ℕ → Event → Bay → List (Option ConnectionState) → Step → List Entry
observed_in_step now (Open a) names connections step = entries_of_act now (Opened a)
observed_in_step now (Recv a octets) names connections step =
    observed_in_recv now a names octets.now (connection_state_at (slot_of a) connections) step.sent
    ++ observed_in_close now step.closed
observed_in_step now (Close a) names connections step = entries_of_act now (Closed a)
observed_in_step now (Contact k position) names connections step = []
observed_in_step now (Input k value) names connections step = []
observed_in_step now (Measure k field value) names connections step = []
observed_in_step now (BadMeasure k field) names connections step = []
observed_in_step now Lost names connections step = []
observed_in_step now Scan names connections step = []

-- the state of a connection after octets, if it is open
abbrev pub state_after_octets : List ℕ → Option ConnectionState → Option ConnectionState
state_after_octets octets None = None
state_after_octets octets (Some connection) = Some (connection_after connection octets)

-- the states of all connections after octets on an association
abbrev pub states_after_octets : ℕ → List ℕ → List (Option ConnectionState)
    → List (Option ConnectionState)
states_after_octets a [] connections = connections
states_after_octets a (octet ∷ octets) connections =
    with_connection_state (slot_of a)
    (state_after_octets (octet ∷ octets) (connection_state_at (slot_of a) connections)) connections

-- the states of all connections after octets on an association, which the device may have closed
abbrev pub states_after_recv : ℕ → List ℕ → List (Option ConnectionState) → Option (ℕ × Why)
    → List (Option ConnectionState)
states_after_recv a octets connections (Some closed) =
    with_connection_state (slot_of a) None connections
states_after_recv a octets connections None = states_after_octets a octets connections

-- the states of all connections after an event that is not refused
abbrev pub states_after_step : Event → List (Option ConnectionState) → Step
    → List (Option ConnectionState)
states_after_step (Open a) connections step =
    with_connection_state (slot_of a) (Some (initial_connection a)) connections
states_after_step (Recv a octets) connections step =
    states_after_recv a octets.now connections step.closed
states_after_step (Close a) connections step = with_connection_state (slot_of a) None connections
states_after_step (Contact k position) connections step = connections
states_after_step (Input k value) connections step = connections
states_after_step (Measure k field value) connections step = connections
states_after_step (BadMeasure k field) connections step = connections
states_after_step Lost connections step = connections
states_after_step Scan connections step = connections

-- the result of a refused event, or of the step of an accepted one
abbrev pub of_answer : {T : Type 0} → T → (Step → T) → Result Step StepFault → T
of_answer refused accepted (Ok step) = accepted step
of_answer refused accepted (Err fault) = refused

-- the entries of an event
abbrev pub observed_in_answer : ℕ → Event → Bay → List (Option ConnectionState)
    → Result Step StepFault → List Entry
observed_in_answer now event names connections answer =
    of_answer [] (observed_in_step now event names connections) answer

-- the states of all connections after an event
abbrev pub states_after_answer : Event → List (Option ConnectionState) → Result Step StepFault
    → List (Option ConnectionState)
states_after_answer event connections answer =
    of_answer connections (states_after_step event connections) answer

-- The entries of events and their answers, one after the other, for a bay whose variables have
-- these names, and with these states of the connections before the events.
abbrev pub observed_in_run : Bay → List (Option ConnectionState) → List (ℕ × Event)
    → List (Result Step StepFault)
    → List Entry
observed_in_run names connections [] replies = []
observed_in_run names connections (e ∷ es) [] = []
observed_in_run names connections (e ∷ es) (reply ∷ replies) =
    observed_in_answer e.0 e.1 names connections reply
    ++ observed_in_run names (states_after_answer e.1 connections reply) es replies

-- ---- steps

-- Each open association has agreed on a size of PDUs.
abbrev pub HaveAgreedSize : List (Option ConnectionState) → Type 0
HaveAgreedSize connections =
    (slot : ℕ) (t : ConnectionState) → unwrap_or (slice_get connections slot) None ≡ Some t
    → IsSized t.phase

-- If the past entries lead to the controls before an event, then with the entries of the event and
-- its answer they lead to those after it. The event and the answer also determine the state of each
-- connection, and the names stay the same.
pub record EntriesLead (names : Bay) (now : ℕ) (event : Event) (old : State)
    (answer : Result Step StepFault) (new : State) : Type 0 where
  pub leads : (past : List Entry) (open_before : ℕ → Bool) (before : control.State)
      → LeadsControls past open_before before (opens old) old.controls
      → LeadsControls (past ++ observed_in_answer now event names old.connections answer)
      open_before before
      (opens new) new.controls
  pub left : new.connections ≡ states_after_answer event old.connections answer
  pub alike : AreNamedAlike names (bay_of new)
  pub sized : HaveAgreedSize new.connections
