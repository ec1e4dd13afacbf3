-- What is printed for a line of the trace.
use Rattle.std.specs.Prelude.{ℕ, max, nat_lt, Bool, true, false, List, codes, Option, None, Some, if◌then◌else◌, []}
use Rattle.bay_device.specs.Device.{State}
use Rattle.bay_device.specs.Outcomes.{outcome}
use Rattle.bay_device.specs.declared.event.Event.{Event}
use Rattle.bay_trace.specs.Resolving.{octet_count, resolved_event}
use Rattle.bay_trace.specs.Trace.{NamedData, LineData, blank, at_moment}
use Rattle.bay_report.specs.Lines.{step_text, unreadable_text}

-- a device to which a trace is replayed, and the size of the buffer for the octets of a line
pub record Replaying : Type 0 where
  pub device : State
  pub room : ℕ

-- what is printed for a line of the trace, whether the replay ends there, and the state after it
pub record LineAnswer : Type 0 where
  pub text : List ℕ
  pub is_last : Bool
  pub after : Replaying

-- where memory runs out at a line: for its octets, or in the device after how many of their
-- indications; or nowhere
pub data Choice : Type 0 where
  unread : Choice
  heard : Option ℕ → Choice

-- an event is applied, and its line has this number of octets
abbrev pub event_answer : Option ℕ → ℕ → Event → ℕ → Replaying → LineAnswer
event_answer choice now event count r =
    let done = outcome choice now event r.device in
    record {
      text = step_text now done.answer done.after;
      is_last = false;
      after = record { device = done.after; room = max r.room count };
    }

-- Memory runs out for a line's octets, of which there are more than in any line before.
abbrev pub memory_answer : Replaying → LineAnswer
memory_answer r = record { text = codes "fault memory\n"; is_last = true; after = r }

-- the event of a line is applied; memory can run out for its octets only if they are more than the
-- buffer holds
abbrev pub named_answer : Choice → ℕ → NamedData → Replaying → LineAnswer
named_answer unread now event r =
    if nat_lt r.room (octet_count event)
    then memory_answer r
    else event_answer None now (resolved_event r.device event) (octet_count event) r
named_answer (heard choice) now event r =
    event_answer choice now (resolved_event r.device event) (octet_count event) r

-- the answer to line k of the trace
abbrev pub line_answer : Choice → ℕ → Option LineData → Replaying → LineAnswer
line_answer choice k None r = record { text = unreadable_text k; is_last = true; after = r }
line_answer choice k (Some blank) r = record { text = []; is_last = false; after = r }
line_answer choice k (Some (at_moment moment event)) r = named_answer choice moment event r
