-- The lines of a supervised process, after its first: each has a moment, and the event of this
-- moment or ` alive`.
use Rattle.std.specs.Prelude.{ℕ, ◌-◌, nat_eq, List, codes, drop, length, take, Option, None, Some, option_map, if◌then◌else◌}
use Rattle.std.specs.Cmp.Lexicographic.{pointwise}
use Rattle.bay_base.specs.Decimals.{read_number}
use Rattle.bay_device.specs.Device.{State}
use Rattle.bay_trace.specs.Trace.{LineData, blank, at_moment, trace_line_of}
use Rattle.bay_server_turn.specs.Served.{process_event}
use Rattle.bay_server_turn.specs.declared.process_input.ProcessEvent.{ProcessEvent}
use Rattle.bay_server_turn.specs.declared.supervised.TimedLine.{TimedLine}

-- a text without this end; None if it does not end so
abbrev pub text_without_end : List ℕ → List ℕ → Option (List ℕ)
text_without_end end text =
    if pointwise nat_eq (drop (length text - length end) text) end
    then Some (take (length text - length end) text)
    else None

-- a line without an event: the process is alive
abbrev pub alive_at : ℕ → TimedLine
alive_at moment = record { moment = moment; event = None }

-- a line with this event at this moment
abbrev pub happened_at : ℕ → ProcessEvent → TimedLine
happened_at moment event = record { moment = moment; event = Some event }

-- the moment and the event of a line of the trace
abbrev pub timed_event : State → Option LineData → Option TimedLine
timed_event s None = None
timed_event s (Some blank) = None
timed_event s (Some (at_moment moment named)) =
    option_map (happened_at moment) (process_event s named)

-- the moment and the event of a line, given the text before ` alive`, if the line ends so
abbrev pub timed_by : State → List ℕ → Option (List ℕ) → Option TimedLine
timed_by s line (Some digits) = option_map alive_at (read_number digits)
timed_by s line None = timed_event s (trace_line_of line)

-- A line is a moment and ` alive`, or has the form of a line of the trace with a contact, an input
-- or a measurement.
abbrev pub timed_line_of : State → List ℕ → Option TimedLine
timed_line_of s line = timed_by s line (text_without_end (codes " alive") line)
