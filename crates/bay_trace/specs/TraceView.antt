-- A line of the trace as a value: as in the code, without the slices that it borrows from.
use Rattle.bay_trace.specs.declared.trace.NamedEvent.{NamedEvent}
use Rattle.bay_trace.specs.declared.trace.NamedEvent.TheVariants.{Open, Recv, Close, Contact, Input, Measure, BadMeasure, Lost, Scan}
use Rattle.bay_trace.specs.declared.trace.TraceLine.{TraceLine}
use Rattle.bay_trace.specs.declared.trace.TraceLine.TheVariants.{Blank, At}
use Rattle.bay_trace.specs.Digits.{octets_or_empty}
use Rattle.bay_trace.specs.Trace.{NamedData, LineData, connects, receives, disconnects, contact, input, measure, bad_measure, lost, scan, blank, at_moment}

-- an event, without the addresses of its texts
abbrev pub named_view : NamedEvent → NamedData
named_view (Open a) = connects a
named_view (Recv a digits) = receives a (octets_or_empty digits.text.now)
named_view (Close a) = disconnects a
named_view (Contact id position) = contact id.now position
named_view (Input name value) = input name.now value
named_view (Measure id field value) = measure id.now field value
named_view (BadMeasure id field) = bad_measure id.now field
named_view Lost = lost
named_view Scan = scan

-- a line, without the addresses of its texts
abbrev pub line_view : TraceLine → LineData
line_view Blank = blank
line_view (At moment event) = at_moment moment (named_view event)
