-- The effect of an event on a device, and its answer: the device's step.
use Rattle.std.specs.Prelude.{◌+◌, ℕ, ℤ, ◌-◌, ◌==◌, ◌&&◌, nat_lt, Bool, List, [], ◌∷◌, drop, get_or, slice_get, slice_set, unwrap_or, Option, None, Some, Result, Ok, Err, if◌then◌else◌}
use Rattle.bay_base.specs.declared.position.Dbpos.{Dbpos}
use Rattle.bay_nodes.specs.declared.switch.Switch.{Switch}
use Rattle.bay_base.specs.declared.point.MeterField.{MeterField}
use Rattle.bay_transport.specs.Doings.{stream_start}
use Rattle.bay_assoc.specs.declared.receive.Phase.TheVariants.{Idle}
use Rattle.bay_control.specs.Decisions.{without_association}
use Rattle.bay_connection.specs.ConnectionStates.{ConnectionState, indications, connection_after}
use Rattle.bay_device.specs.Device.{State, device_at, device_after_contact, device_after_bad_measure, expiry_report, device_after_input, device_after_loss, device_after_measure, run_result_at, reached_report_at, after_scan, with_health}
use Rattle.bay_device.specs.Receiving.{StepState, ReceiveResult, after_indications}
use Rattle.bay_device.specs.declared.termination.PendingTermination.{PendingTermination}
use Rattle.bay_device.specs.declared.event.Event.{Event}
use Rattle.bay_device.specs.declared.event.Event.TheVariants.{Open, Recv, Close, Contact, Input, Measure, BadMeasure, Lost, Scan}
use Rattle.bay_device.specs.declared.event.ScanResult.{ScanResult}
use Rattle.bay_device.specs.declared.event.Sent.{Sent}
use Rattle.bay_device.specs.declared.event.Step.{Step}
use Rattle.bay_device.specs.declared.event.Why.{Why}
use Rattle.bay_device.specs.declared.fault.StepFault.{StepFault}
use Rattle.bay_device.specs.declared.fault.StepFault.TheVariants.{MomentTooLarge, TimeWentBack, NoSuchAssociation, AlreadyOpen, NoSuchPoint}

-- the result of an event: its answer, and the device after it
pub record Outcome : Type 0 where
  pub answer : Result Step StepFault
  pub after : State

-- a refused event changes nothing
abbrev pub refusal_outcome : StepFault → State → Outcome
refusal_outcome fault s = record { answer = Err fault; after = s }

-- the answer of an event that sends nothing but the report that an operate ended
abbrev pub quiet_step : Option Sent → Step
quiet_step ended = record {
  ended = ended;
  sent = [];
  commands = [];
  decisions = [];
  closed = None;
  scan = None;
}

-- the outcome of an event that sends nothing but the report that an operate ended
abbrev pub quiet : Option Sent → State → Outcome
quiet ended s = record { answer = Ok (quiet_step ended); after = s }

-- ---- the process

-- the first, or the later if there is no first
abbrev pub or_else : Option Sent → Option Sent → Option Sent
or_else (Some sent) later = Some sent
or_else None later = later

-- the outcome of a reported position; it is refused if there is no such switch
abbrev pub contact_outcome : ℕ → ℕ → Dbpos → State → Option Switch → Outcome
contact_outcome now k position s None = refusal_outcome NoSuchPoint s
contact_outcome now k position s (Some switch) =
    quiet (or_else (expiry_report now s) (reached_report_at k position (device_at now s)))
    (with_health now (device_after_contact now k switch position (device_at now s)))

-- the outcome of a reported value of an input; it is refused if there is no such input
abbrev pub input_outcome : ℕ → ℕ → Bool → State → Option Bool → Outcome
input_outcome now k value s None = refusal_outcome NoSuchPoint s
input_outcome now k value s (Some before) =
    quiet (expiry_report now s)
    (with_health now (device_after_input now k value before (device_at now s)))

-- the outcome of a measured value; it is refused if there is no such meter
abbrev pub measure_outcome : ℕ → ℕ → MeterField → ℤ → State → Option (List ℕ) → Outcome
measure_outcome now k field value s None = refusal_outcome NoSuchPoint s
measure_outcome now k field value s (Some id) =
    quiet (expiry_report now s)
    (with_health now (device_after_measure now k field value (device_at now s)))

-- the outcome of a report that a measured value is invalid; it is refused if there is no such meter
abbrev pub bad_measure_outcome : ℕ → ℕ → MeterField → State → Option (List ℕ) → Outcome
bad_measure_outcome now k field s None = refusal_outcome NoSuchPoint s
bad_measure_outcome now k field s (Some id) =
    quiet (expiry_report now s)
    (with_health now (device_after_bad_measure now k field (device_at now s)))

-- the outcome of the loss of the process
abbrev pub lost_outcome : ℕ → State → Outcome
lost_outcome now s =
    quiet (expiry_report now s) (with_health now (device_after_loss now (device_at now s)))

-- the answer of a scan, with its number of steps
abbrev pub scan_step : ScanResult → Step
scan_step scanned = record (quiet_step scanned.ended) { scan = Some scanned.steps }

-- the outcome of a scan
abbrev pub scan_outcome : ℕ → State → Outcome
scan_outcome now s = record {
  answer =
      Ok (record (quiet_step (expiry_report now s))
      { scan = Some (run_result_at now (device_at now s)).steps });
  after = after_scan now (device_at now s);
}

-- ---- the associations

-- the maximum number of open associations
abbrev pub associations : ℕ
associations = 8

-- the slot of an association among all; their numbers begin at 1
abbrev pub slot_of : ℕ → Option ℕ
slot_of a = if nat_lt 0 a && nat_lt a (associations + 1) then Some (a - 1) else None

-- the state of an association's connection, if it is open
abbrev pub connection_at : Option ℕ → State → Option ConnectionState
connection_at None s = None
connection_at (Some slot) s = unwrap_or (slice_get s.connections slot) None

-- the device with this connection state of an association
abbrev pub with_connection : Option ℕ → Option ConnectionState → State → State
with_connection None connection s = s
with_connection (Some slot) connection s =
    record s { connections = slice_set s.connections slot connection }

-- the state of a connection before its first octet
abbrev pub initial_connection : ℕ → ConnectionState
initial_connection a = record { stream = record { number = a; state = stream_start }; phase = Idle }

-- the pending reports without those to a closed association
abbrev pub pending_without : ℕ → Option PendingTermination → Option PendingTermination
pending_without a None = None
pending_without a (Some pending) = if pending.association == a then None else Some pending

-- the device after an association is closed, which ends its selection
abbrev pub without_owner : ℕ → State → State
without_owner a s =
    record s { controls = without_association a s.controls; pending = pending_without a s.pending }

-- the device after an association is closed: the association is no longer open, and its selection
-- ends
abbrev pub without_connection : ℕ → State → State
without_connection a s = with_connection (slot_of a) None (without_owner a s)

-- the outcome of opening an association; it is refused if the association is open
abbrev pub open_outcome : ℕ → ℕ → State → Option ℕ → Option ConnectionState → Outcome
open_outcome now a s None connection = refusal_outcome NoSuchAssociation s
open_outcome now a s (Some slot) (Some connection) = refusal_outcome AlreadyOpen s
open_outcome now a s (Some slot) None =
    quiet (expiry_report now s) (with_connection (slot_of a) (Some (initial_connection a))
    (device_at now s))

-- the outcome of closing an association; it is refused if the association is not open
abbrev pub close_outcome : ℕ → ℕ → State → Option ConnectionState → Outcome
close_outcome now a s None = refusal_outcome NoSuchAssociation s
close_outcome now a s (Some connection) =
    quiet (expiry_report now s) (without_connection a (device_at now s))

-- the device after octets: the association stays open, or the device has closed it
abbrev pub recv_after : ℕ → ConnectionState → State → Option Why → State
recv_after a left s None = with_connection (slot_of a) (Some left) s
recv_after a left s (Some why) = without_connection a s

-- the report that the device closed an association, and why
abbrev pub closed_by : ℕ → Option Why → Option (ℕ × Why)
closed_by a None = None
closed_by a (Some why) = Some (a, why)

-- the outcome of octets, from their result
abbrev pub recv_done : ℕ → ConnectionState → Option Sent → ReceiveResult → Outcome
recv_done a left ended h = record {
  answer =
      Ok (record {
        ended = ended;
        sent = h.done.sent;
        commands = h.done.commands;
        decisions = h.done.decisions;
        closed = closed_by a h.why;
        scan = None;
      });
  after = recv_after a left h.done.state h.why;
}

-- the result before any indication is handled
abbrev pub step_start : State → StepState
step_start s = record { state = s; sent = []; commands = []; decisions = [] }

-- the outcome of octets of an open association; without octets there is no indication, and nothing
-- is allocated
abbrev pub octets_outcome : Option ℕ → ℕ → ℕ → State → ConnectionState → List ℕ → Outcome
octets_outcome choice now a s connection [] = quiet (expiry_report now s) (device_at now s)
octets_outcome choice now a s connection (octet ∷ octets) =
    recv_done a (connection_after connection (octet ∷ octets)) (expiry_report now s)
    (after_indications choice now a (indications connection (octet ∷ octets))
    (step_start (device_at now s)))

-- the outcome of octets of an association; they are refused if it is not open
abbrev pub recv_outcome : Option ℕ → ℕ → ℕ → List ℕ → State → Option ConnectionState → Outcome
recv_outcome choice now a octets s None = refusal_outcome NoSuchAssociation s
recv_outcome choice now a octets s (Some connection) =
    octets_outcome choice now a s connection octets

-- ---- events

-- the outcome of an event whose time is not refused
abbrev pub event_outcome : Option ℕ → ℕ → Event → State → Outcome
event_outcome choice now (Open a) s =
    open_outcome now a s (slot_of a) (connection_at (slot_of a) s)
event_outcome choice now (Recv a octets) s =
    recv_outcome choice now a octets.now s (connection_at (slot_of a) s)
event_outcome choice now (Close a) s = close_outcome now a s (connection_at (slot_of a) s)
event_outcome choice now (Contact k position) s =
    contact_outcome now k position s (slice_get s.switches k)
event_outcome choice now (Input k value) s =
    input_outcome now k value s (slice_get s.input_values k)
event_outcome choice now (Measure k field value) s =
    measure_outcome now k field value s (slice_get s.meters k)
event_outcome choice now (BadMeasure k field) s =
    bad_measure_outcome now k field s (slice_get s.meters k)
event_outcome choice now Lost s = lost_outcome now s
event_outcome choice now Scan s = scan_outcome now s

-- the latest time that a time stamp can hold
abbrev pub last_moment : ℕ
last_moment = 4294967295999

-- The outcome of an event at a time, which may be neither too large nor before that of the last
-- event. The first argument is the free choice: Some n, an allocation fails after n of the
-- indications of a Recv; None, no allocation fails.
abbrev pub outcome : Option ℕ → ℕ → Event → State → Outcome
outcome choice now event s =
    if nat_lt last_moment now then refusal_outcome MomentTooLarge s
    else if nat_lt now s.moment then refusal_outcome TimeWentBack s
    else event_outcome choice now event s

-- the results of a list of events, one after the other, with a choice for each; without further
-- choices no allocation fails
pub record Outcomes : Type 0 where
  pub answers : List (Result Step StepFault)
  pub after : State

-- the results with one more answer before them
abbrev pub with_first : Result Step StepFault → Outcomes → Outcomes
with_first answer rest = record { answers = answer ∷ rest.answers; after = rest.after }

-- one event after the other
abbrev pub outcomes : List (Option ℕ) → List (ℕ × Event) → State → Outcomes
outcomes choices [] s = record { answers = []; after = s }
outcomes choices (e ∷ es) s =
    let o = outcome (get_or choices 0 None) e.0 e.1 s in
    with_first o.answer (outcomes (drop 1 choices) es o.after)
