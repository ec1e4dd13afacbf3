-- The record of a session: the lines of the device's events, and what its file took of them.
use Rattle.std.specs.Prelude.{◌≡◌, ℕ, ◌-◌, nat_le, not, ◌==◌, Bool, true, false, if◌then◌else◌, List, [], ◌∷◌, ◌++◌, codes, length, Option, None, Some, is_some, option_map, option_and_then}
use Rattle.std.specs.Io.KnownBytes.{Appends}
use Rattle.bay_device.specs.declared.event.Event.{Event}
use Rattle.bay_device.specs.declared.event.Event.TheVariants.{Open, Recv, Close, Contact, Input, Measure, BadMeasure, Lost, Scan}
use Rattle.bay_lines.specs.Puts.{fits_in}
use Rattle.bay_trace.specs.Recording.{event_line}
use Rattle.bay_trace.specs.Trace.{process_of, trace_line_of}
use Rattle.bay_server_turn.specs.declared.record.RecordEnd.{RecordEnd}
use Rattle.bay_server_turn.specs.declared.record.RecordEnd.TheVariants.{Full, Overlong, Failed}

-- What a record holds: the lines that are not written yet; how many octets more it may have; whether
-- it has ended; and why, until that is reported.
pub record Recording : Type 0 where
  pub waiting : List ℕ
  pub left : ℕ
  pub is_over : Bool
  pub end : Option RecordEnd

-- a record of at most `most` octets, before its first event
abbrev pub new_recording : ℕ → Recording
new_recording most = record { waiting = []; left = most; is_over = false; end = None }

-- a record that ends, for this reason
abbrev pub finished : RecordEnd → Recording → Recording
finished end r = record r { is_over = true; end = Some end }

-- ---- an event is recorded

-- The event has a line: octets of a client, if there are any; an event of a switch, an input or a
-- meter, if the line that it was read from has such an event; and each other event.
abbrev pub has_line : List ℕ → Event → Bool
has_line source (Open a) = true
has_line source (Recv a octets) = not (length octets.now == 0)
has_line source (Close a) = true
has_line source (Contact k position) = is_some (process_of (trace_line_of source))
has_line source (Input k value) = is_some (process_of (trace_line_of source))
has_line source (Measure k field value) = is_some (process_of (trace_line_of source))
has_line source (BadMeasure k field) = is_some (process_of (trace_line_of source))
has_line source Lost = true
has_line source Scan = true

-- the line of an event at a moment, with its end
abbrev pub recorded_line : ℕ → List ℕ → Event → List ℕ
recorded_line now source event = event_line now source event ++ codes "\n"

-- A line is recorded as a whole, if what is left of the size of the record has room for it, and
-- 73,728 octets have room for what waits and for it; otherwise the record ends.
abbrev pub with_line : List ℕ → Recording → Recording
with_line line r =
    if fits_in 73728 [] line
    then (if nat_le (length line) r.left
    then (if fits_in 73728 r.waiting line
    then record r { waiting = r.waiting ++ line; left = r.left - length line }
    else finished Overlong r)
    else finished Full r)
    else finished Overlong r

-- An event at a moment is recorded, unless the record has ended. If the event has no line, the
-- record ends.
abbrev pub with_event_line : ℕ → List ℕ → Event → Recording → Recording
with_event_line now source event r =
    if r.is_over
    then r
    else (if has_line source event
    then with_line (recorded_line now source event) r
    else finished Overlong r)

-- an event is recorded, if the session is
abbrev pub recorded : ℕ → List ℕ → Event → Option Recording → Option Recording
recorded now source event recording = option_map (with_event_line now source event) recording

-- ---- what waits is written

-- all was taken: nothing is left
abbrev pub is_whole : List ℕ → Bool
is_whole [] = true
is_whole (b ∷ bs) = false

-- after a write that left this of the lines that waited: if that is not nothing, the record has
-- ended
abbrev pub after_write : List ℕ → Recording → Recording
after_write rest r = record {
  waiting = [];
  left = r.left;
  is_over = if is_whole rest then r.is_over else true;
  end = None;
}

-- what a write that left this reports: why the record has ended, once
abbrev pub end_after_write : List ℕ → Recording → Option RecordEnd
end_after_write rest r = if is_whole rest then r.end else Some Failed

-- a record and what it writes to
pub record RecordState (W : Type 0) : Type 0 where
  pub writer : W
  pub recording : Recording

-- What waits is written: the writer took a prefix of it, and all of it unless the write failed, with
-- which the record ends. The answer is why the record has ended, if that was not reported before.
pub record Writes {W : Type 0} (contents : W → Option (List ℕ)) (old new : RecordState W)
    (answer : Option RecordEnd) : Type 0 where
  pub took : List ℕ
  pub rest : List ℕ
  pub is : took ++ rest ≡ old.recording.waiting
  pub bytes : Appends (contents old.writer) (contents new.writer) took
  pub after : new.recording ≡ after_write rest old.recording
  pub answered : answer ≡ end_after_write rest old.recording

-- what waits to be written, if the session is recorded
abbrev pub waiting_of : Option Recording → List ℕ
waiting_of None = []
waiting_of (Some r) = r.waiting

-- what waits is written, if the session is recorded; the file took this
pub record WritesRecording (took : List ℕ) (old new : Option Recording)
    (answer : Option RecordEnd) : Type 0 where
  pub rest : List ℕ
  pub is : took ++ rest ≡ waiting_of old
  pub after : new ≡ option_map (after_write rest) old
  pub answered : answer ≡ option_and_then (end_after_write rest) old
