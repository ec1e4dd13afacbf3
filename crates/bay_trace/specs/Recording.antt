-- The trace line of an event of a device, as the record of a service has it.
use Rattle.std.specs.Prelude.{◌≡◌, ℕ, ◌+◌, ◌<◌, ◌^◌, Bool, List, ◌++◌, codes, drop, length, Some}
use Rattle.std.specs.Fmt.{decimal}
use Rattle.std.specs.List.{position_or_len}
use Rattle.hex.specs.Hex.{IsBytes, encode_lower}
use Rattle.bay_device.specs.Device.{State}
use Rattle.bay_device.specs.declared.event.Event.{Event}
use Rattle.bay_device.specs.declared.event.Event.TheVariants.{Open, Recv, Close, Contact, Input, Measure, BadMeasure, Lost, Scan}
use Rattle.bay_lines.specs.Puts as puts
use Rattle.bay_trace.specs.Resolving.{without_address, resolved_event}
use Rattle.bay_trace.specs.Trace.{NamedData, at_moment, is_space, trace_line_of}

-- the rest of a line after its first space
abbrev pub text_after_moment : List ℕ → List ℕ
text_after_moment line = drop (position_or_len is_space line + 1) line

-- The line of an event at a moment, without its end: for an association its number, with the octets
-- of its client as hexadecimal digits; for a switch, an input or a meter the words of the line that
-- the event was read from.
abbrev pub event_line : ℕ → List ℕ → Event → List ℕ
event_line now source (Open a) = decimal now ++ codes " open " ++ decimal a
event_line now source (Recv a octets) =
    decimal now ++ codes " recv " ++ decimal a ++ codes " " ++ encode_lower octets.now
event_line now source (Close a) = decimal now ++ codes " close " ++ decimal a
event_line now source (Contact k position) = decimal now ++ codes " " ++ text_after_moment source
event_line now source (Input k value) = decimal now ++ codes " " ++ text_after_moment source
event_line now source (Measure k field value) = decimal now ++ codes " " ++ text_after_moment source
event_line now source (BadMeasure k field) = decimal now ++ codes " " ++ text_after_moment source
event_line now source Lost = decimal now ++ codes " lost"
event_line now source Scan = decimal now ++ codes " scan"

-- ---- how a line is read

-- a line that this device reads as this event, at some moment
pub record SpellsEvent (s : State) (source : List ℕ) (event : Event) : Type 0 where
  pub moment : ℕ
  pub named : NamedData
  pub read : trace_line_of source ≡ Some (at_moment moment named)
  pub resolved : resolved_event s named ≡ event

-- An event that can be recorded: the number of its association is below 2 ^ 16, and its octets are
-- at least one; an event of a switch, an input or a meter was read from this line.
abbrev pub IsRecordable : State → List ℕ → Event → Type 0
IsRecordable s source (Open a) = a < 2 ^ 16
IsRecordable s source (Recv a octets) =
    (a < 2 ^ 16) × IsBytes octets.now × (0 < length octets.now)
IsRecordable s source (Close a) = a < 2 ^ 16
IsRecordable s source (Contact k position) = SpellsEvent s source (Contact k position)
IsRecordable s source (Input k value) = SpellsEvent s source (Input k value)
IsRecordable s source (Measure k field value) = SpellsEvent s source (Measure k field value)
IsRecordable s source (BadMeasure k field) = SpellsEvent s source (BadMeasure k field)
IsRecordable s source Lost = Unit {0}
IsRecordable s source Scan = Unit {0}

-- a line that this device reads as this event, at this moment
pub record IsReadAs (s : State) (line : List ℕ) (now : ℕ) (event : Event) : Type 0 where
  pub named : NamedData
  pub read : trace_line_of line ≡ Some (at_moment now named)
  pub resolved : resolved_event s named ≡ without_address event

-- ---- room

-- whether 73,728 octets have room for the lines and this text; if they have, the text was appended
abbrev pub PutsWhole : List ℕ → List ℕ → List ℕ → Bool → Type 0
PutsWhole = puts.PutsWhole 73728
