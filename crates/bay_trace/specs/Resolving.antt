-- The event of a device that a line of the trace has: names become indices, and the octets are in a
-- buffer.
use Rattle.std.specs.Prelude.{◌≡◌, ℕ, ◌<◌, max, List, length, unwrap_or, Result, Ok, Err}
use Rattle.std.specs.Borrow.{Bor}
use Rattle.bay_device.specs.Device.{State}
use Rattle.bay_device.specs.LookUps.{switch_index, input_index, meter_index}
use Rattle.bay_device.specs.declared.event.Event.{Event}
use Rattle.bay_device.specs.declared.event.Event.TheVariants.{Open, Recv, Close, Contact, Input, Measure, BadMeasure, Lost, Scan}
use Rattle.bay_trace.specs.Trace.{NamedData, connects, receives, disconnects, contact, input, measure, bad_measure, lost, scan}

-- octets at any address
abbrev pub borrow_of : List ℕ → Bor (List ℕ)
borrow_of octets = record { ref_ptr = (0, 0); now = octets }

-- an event with the index of its switch, input or meter; an unknown name becomes an index that none
-- has
abbrev pub resolved_event : State → NamedData → Event
resolved_event s (connects a) = Open a
resolved_event s (receives a octets) = Recv a (borrow_of octets)
resolved_event s (disconnects a) = Close a
resolved_event s (contact id position) =
    Contact (unwrap_or (switch_index s id) (length s.switches)) position
resolved_event s (input name value) =
    Input (unwrap_or (input_index s name) (length s.input_values)) value
resolved_event s (measure id field value) =
    Measure (unwrap_or (meter_index s id) (length s.meters)) field value
resolved_event s (bad_measure id field) =
    BadMeasure (unwrap_or (meter_index s id) (length s.meters)) field
resolved_event s lost = Lost
resolved_event s scan = Scan

-- an event with its octets at any address
abbrev pub without_address : Event → Event
without_address (Recv a octets) = Recv a (borrow_of octets.now)
without_address (Open a) = Open a
without_address (Close a) = Close a
without_address (Contact k position) = Contact k position
without_address (Input k value) = Input k value
without_address (Measure k field value) = Measure k field value
without_address (BadMeasure k field) = BadMeasure k field
without_address Lost = Lost
without_address Scan = Scan

-- the number of octets that an event has
abbrev pub octet_count : NamedData → ℕ
octet_count (receives a octets) = length octets
octet_count (connects a) = 0
octet_count (disconnects a) = 0
octet_count (contact id position) = 0
octet_count (input name value) = 0
octet_count (measure id field value) = 0
octet_count (bad_measure id field) = 0
octet_count lost = 0
octet_count scan = 0

-- the octets of a line, and the size of their buffer
pub record LineRoom : Type 0 where
  pub octets : List ℕ
  pub room : ℕ

-- these are the octets of the event, if it has any
abbrev pub AreEventOctets : NamedData → List ℕ → Type 0
AreEventOctets (receives a xs) octets = octets ≡ xs
AreEventOctets (connects a) octets = Unit {0}
AreEventOctets (disconnects a) octets = Unit {0}
AreEventOctets (contact id position) octets = Unit {0}
AreEventOctets (input name value) octets = Unit {0}
AreEventOctets (measure id field value) octets = Unit {0}
AreEventOctets (bad_measure id field) octets = Unit {0}
AreEventOctets lost octets = Unit {0}
AreEventOctets scan octets = Unit {0}

-- the octets of the event are in the buffer, which grew only if it was too small
pub record HasDecoded (event : NamedData) (old new : LineRoom) : Type 0 where
  pub octets : AreEventOctets event new.octets
  pub room : new.room ≡ max old.room (octet_count event)

-- decoding the octets of an event: they are in the buffer, or an error, only if the buffer was too
-- small
abbrev pub Decodes : {X E : Type 0} → NamedData → LineRoom → LineRoom → Result X E → Type 0
Decodes event old new (Ok x) = HasDecoded event old new
Decodes event old new (Err e) = old.room < octet_count event
