-- The requests of events on a device's controls, and which of them were accepted, as an outside
-- observer sees them; and which associations are open.
use Rattle.std.specs.Prelude.{ℕ, ◌≡◌, zero, suc, nat_lt, Bool, true, List, [], ◌∷◌, ◌++◌, Option, None, Some, is_some, replicate, Result, if◌then◌else◌}
use Rattle.bay_control.specs.Acts.{Act, Opened, Closed, Entry}
use Rattle.bay_control.specs.Decisions as control
use Rattle.bay_control.specs.TimedCalls.{LeadsControls}
use Rattle.bay_connection.specs.ConnectionStates.{Indication, ConnectionState, answers, delivers, releases, ends, fails, indications}
use Rattle.bay_mms_services.specs.Entries.{entries_on_pdu}
use Rattle.bay_device.specs.Device.{State, device_at, bay_of}
use Rattle.bay_device.specs.Receiving.{StepState, client_at, after_indications, after_pdu, with_sent}
use Rattle.bay_device.specs.Outcomes.{associations, connection_at, last_moment, step_start, slot_of}
use Rattle.bay_device.specs.Steps.{Steps}
use Rattle.bay_device.specs.declared.event.Event.{Event}
use Rattle.bay_device.specs.declared.event.Event.TheVariants.{Open, Recv, Close, Contact, Input, Measure, BadMeasure, Lost, Scan}
use Rattle.bay_device.specs.declared.event.Step.{Step}
use Rattle.bay_device.specs.declared.event.Why.{Why}
use Rattle.bay_device.specs.declared.fault.StepFault.{StepFault}

-- an association is open
abbrev pub opens : State → ℕ → Bool
opens s a = is_some (connection_at (slot_of a) s)

-- A device as load made it: there is no selection, and none of the eight associations is open.
pub record IsIdle (s : State) : Type 0 where
  pub unselected : s.controls.selection ≡ None
  pub closed : s.connections ≡ replicate associations None

-- the entry of an association that was opened or closed
abbrev pub entries_of_act : ℕ → Act → List Entry
entries_of_act now act = record { now = now; act = act; is_accepted = true } ∷ []

-- ---- octets

-- the entries of one indication and then of the later ones; a PDU of MMS has requests
abbrev pub entries_on_indication : ℕ → ℕ → Indication → StepState → (StepState → List Entry)
    → List Entry
entries_on_indication now a (answers octets) d later = later (with_sent a octets d)
entries_on_indication now a (delivers terms pdu) d later =
    entries_on_pdu (client_at now a terms d.state) pdu (bay_of d.state)
    ++ later (after_pdu now a terms pdu d)
entries_on_indication now a (releases octets) d later = []
entries_on_indication now a ends d later = []
entries_on_indication now a (fails code) d later = []

-- the entries of all indications, in their order, with the same choice
abbrev pub entries_on_indications : Option ℕ → ℕ → ℕ → List Indication → StepState → List Entry
entries_on_indications None now a [] d = []
entries_on_indications None now a (i ∷ is) d =
    entries_on_indication now a i d (entries_on_indications None now a is)
entries_on_indications (Some zero) now a is d = []
entries_on_indications (Some (suc n)) now a [] d = []
entries_on_indications (Some (suc n)) now a (i ∷ is) d =
    entries_on_indication now a i d (entries_on_indications (Some n) now a is)

-- the entry of an association that the device closes
abbrev pub entries_on_closing : ℕ → ℕ → Option Why → List Entry
entries_on_closing now a None = []
entries_on_closing now a (Some why) = entries_of_act now (Closed a)

-- the entries of octets of an open association; without octets there is none
abbrev pub entries_on_octets : Option ℕ → ℕ → ℕ → State → ConnectionState → List ℕ → List Entry
entries_on_octets choice now a s connection [] = []
entries_on_octets choice now a s connection (octet ∷ octets) =
    entries_on_indications choice now a (indications connection (octet ∷ octets))
    (step_start (device_at now s))
    ++ entries_on_closing now a
    (after_indications choice now a (indications connection (octet ∷ octets))
    (step_start (device_at now s))).why

-- the entries of octets; none if the association is not open
abbrev pub entries_on_recv : Option ℕ → ℕ → ℕ → List ℕ → State → Option ConnectionState → List Entry
entries_on_recv choice now a octets s None = []
entries_on_recv choice now a octets s (Some connection) =
    entries_on_octets choice now a s connection octets

-- ---- events

-- the entry of an association that is opened, if it was not open
abbrev pub entries_on_open : ℕ → ℕ → Option ℕ → Option ConnectionState → List Entry
entries_on_open now a None connection = []
entries_on_open now a (Some slot) (Some connection) = []
entries_on_open now a (Some slot) None = entries_of_act now (Opened a)

-- the entry of an association that is closed, if it was open
abbrev pub entries_on_close : ℕ → ℕ → Option ConnectionState → List Entry
entries_on_close now a None = []
entries_on_close now a (Some connection) = entries_of_act now (Closed a)

-- the entries of an event whose time is not refused; the process and the program request nothing
abbrev pub entries_on_event : Option ℕ → ℕ → Event → State → List Entry
entries_on_event choice now (Open a) s =
    entries_on_open now a (slot_of a) (connection_at (slot_of a) s)
entries_on_event choice now (Recv a octets) s =
    entries_on_recv choice now a octets.now s (connection_at (slot_of a) s)
entries_on_event choice now (Close a) s = entries_on_close now a (connection_at (slot_of a) s)
entries_on_event choice now (Contact k position) s = []
entries_on_event choice now (Input k value) s = []
entries_on_event choice now (Measure k field value) s = []
entries_on_event choice now (BadMeasure k field) s = []
entries_on_event choice now Lost s = []
entries_on_event choice now Scan s = []

-- The entries of an event at a time, with the free choice of its outcome. A refused event has none.
abbrev pub entries_at : Option ℕ → ℕ → Event → State → List Entry
entries_at choice now event s =
    if nat_lt last_moment now then []
    else if nat_lt now s.moment then []
    else entries_on_event choice now event s

-- ---- steps

-- An event has this answer and leads to this device, by some choice; and if the past entries lead
-- to the controls before the event, then with the entries of the event they lead to those after it.
pub record LeadsByChoice (now : ℕ) (event : Event) (old : State) (answer : Result Step StepFault)
    (new : State) : Type 0 where
  pub steps : Steps now event old answer new
  pub leads : (past : List Entry) (open_before : ℕ → Bool) (before : control.State)
      → LeadsControls past open_before before (opens old) old.controls
      → LeadsControls (past ++ entries_at steps.choice now event old) open_before before (opens new)
      new.controls
