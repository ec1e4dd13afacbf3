-- Calls that read, write and log, with their results. In a result, None means that the call failed.
use Rattle.std.specs.Prelude.{◌≡◌, ℕ, ◌≤◌, ◌==◌, nat_lt, Bool, true, false, ◌&&◌, ◌||◌, not, List, [], ◌∷◌, ◌++◌, length, take, Option, Some, None, is_none, Result, Ok, Err, is_ok}
use Rattle.std.specs.Fmt.{decimal}
use Rattle.std.specs.Result.{result_ok}
use Rattle.bay_io.specs.Moments.{utc_text}
use Rattle.bay_io.specs.declared.calls.LinePart.{LinePart}
use Rattle.bay_io.specs.declared.calls.LinePart.TheVariants.{Text, Number, Moment}

-- the size of the room in octets, and the octets read
pub record ReadCall : Type 0 where
  pub room : ℕ
  pub octets_read : Option (List ℕ)

-- the octets offered, and how many of them were accepted; a flush, and whether it succeeded; a line
-- that was logged
pub data WriteCall : Type 0 where
  Write : List ℕ → Option ℕ → WriteCall
  Flush : Bool → WriteCall
  Log : List ℕ → WriteCall

-- the octets of a read, from its result and the octets in its room after it
abbrev pub octets_read_of : {E : Type 0} → Result ℕ E → List ℕ → Option (List ℕ)
octets_read_of (Ok n) room = Some (take n room)
octets_read_of (Err e) room = None

-- a read, from the size of its room, its result, and the octets in the room after it
abbrev pub source_read : {E : Type 0} → ℕ → Result ℕ E → List ℕ → ReadCall
source_read room answer after = record { room = room; octets_read = octets_read_of answer after }

-- a write, from the octets offered and its result
abbrev pub sink_write : {E : Type 0} → List ℕ → Result ℕ E → WriteCall
sink_write octets answer = Write octets (result_ok answer)

-- a flush, from its result
abbrev pub sink_flush : {X E : Type 0} → Result X E → WriteCall
sink_flush answer = Flush (is_ok answer)

-- the text of a part of a line: a text, a number in decimal digits, or a moment
abbrev pub part_text : LinePart → List ℕ
part_text (Text text) = text.now
part_text (Number number) = decimal number
part_text (Moment moment) = utc_text moment

-- the texts of the parts of a line, one after the other
abbrev pub parts_text : List LinePart → List ℕ
parts_text [] = []
parts_text (part ∷ parts) = part_text part ++ parts_text parts

-- ---- sequences of calls

-- whether a read failed
abbrev pub read_failed : ReadCall → Bool
read_failed call = is_none call.octets_read

-- whether a write or a flush failed, or a write accepted none of the octets offered; a line of the
-- log never counts as failed
abbrev pub write_failed : WriteCall → Bool
write_failed (Write octets None) = true
write_failed (Write octets (Some n)) = n == 0 && nat_lt 0 (length octets)
write_failed (Flush done) = not done
write_failed (Log line) = false

-- whether a call logs a line
abbrev pub is_log : WriteCall → Bool
is_log (Write octets taken) = false
is_log (Flush done) = false
is_log (Log line) = true

-- a call of the sink that does not log
abbrev pub Unlogged : {S : Type 0} → (S → WriteCall → S → Type 0) → S → WriteCall → S → Type 0
Unlogged does old call new = does old call new × (is_log call ≡ false)

-- whether the test holds of one of the calls
abbrev pub some_call : {C : Type 0} → (C → Bool) → List C → Bool
some_call f [] = false
some_call f (call ∷ calls) = f call || some_call f calls

-- these calls, one after another, lead from one state to another
abbrev pub MakesCalls : {S C : Type 0} → (S → C → S → Type 0) → S → List C → S → Type 0
MakesCalls does old [] new = old ≡ new
MakesCalls {S} does old (call ∷ calls) new =
    (mid : S) × does old call mid × MakesCalls does mid calls new

-- Some calls led from the old state to the new one; and a call has failed by now if one had failed
-- before, or one of these calls failed.
pub record SomeCalls {S C : Type 0} (does : S → C → S → Type 0) (fails : C → Bool) (old : S)
    (had_failed : Bool) (new : S) (has_failed : Bool) : Type 0 where
  pub calls : List C
  pub talks : MakesCalls does old calls new
  pub failed : has_failed ≡ (had_failed || some_call fails calls)

-- At most `most` calls led from the old state to the new one; and a call has failed by now if one
-- had failed before, or one of these calls failed.
pub record MakesFewCalls {S C : Type 0} (does : S → C → S → Type 0) (fails : C → Bool) (most : ℕ)
    (old : S) (had_failed : Bool) (new : S) (has_failed : Bool) : Type 0 where
  pub calls_made : SomeCalls does fails old had_failed new has_failed
  pub few : length calls_made.calls ≤ most
