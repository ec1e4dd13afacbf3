-- The record of a session: what it takes of the lines of events, and what its file takes in a turn.
use Rattle.std.specs.Prelude.{◌≡◌, ◌+◌, ◌≤◌, ◌⊎◌, ℕ, Bool, true, false, not, List, [], ◌∷◌, ◌++◌, length, Option, None, Some, is_some}
use Rattle.bay_server_turn.specs.Recorded.{Recording, recorded, recorded_line}
use Rattle.bay_server_turn.specs.declared.record.RecordEnd.{RecordEnd}
use Rattle.bay_server_turn_laws.specs.Events.{ChosenEvent}

-- the record after events, in their order; those of the process were read from this line
abbrev pub recorded_all : ℕ → List ℕ → List ChosenEvent → Option Recording → Option Recording
recorded_all now source [] recording = recording
recorded_all now source (e ∷ es) recording =
    recorded_all now source es (recorded now source e.1 recording)

-- the lines of events, in their order
abbrev pub lines_of : ℕ → List ℕ → List ChosenEvent → List ℕ
lines_of now source [] = []
lines_of now source (e ∷ es) = recorded_line now source e.1 ++ lines_of now source es

-- ---- what a record takes of lines

-- A record takes all the lines, after those that wait, and goes on.
pub record TakesAll (lines : List ℕ) (old new : Recording) : Type 0 where
  pub goes_on : new.is_over ≡ false
  pub no_end : new.end ≡ None
  pub waiting : new.waiting ≡ old.waiting ++ lines
  pub left : new.left + length lines ≡ old.left

-- A record takes a prefix of the lines, after those that wait, and ends.
pub record TakesPrefix (lines : List ℕ) (old new : Recording) : Type 0 where
  pub taken : List ℕ
  pub rest : List ℕ
  pub is : taken ++ rest ≡ lines
  pub over : new.is_over ≡ true
  pub reason : RecordEnd
  pub ended : new.end ≡ Some reason
  pub waiting : new.waiting ≡ old.waiting ++ taken
  pub left : new.left + length taken ≡ old.left

-- The record takes all the lines and goes on, or takes a prefix of them and ends.
pub record TakesLines (lines : List ℕ) (old : Recording) (new : Option Recording) : Type 0 where
  pub recording : Recording
  pub is : new ≡ Some recording
  pub takes : TakesAll lines old recording ⊎ TakesPrefix lines old recording

-- ---- what the file takes in a turn

-- the session is recorded, and its record has not ended
abbrev pub is_recording : Option Recording → Bool
is_recording None = false
is_recording (Some r) = not r.is_over

-- how many octets more the record may have
abbrev pub room_left : Option Recording → ℕ
room_left None = 0
room_left (Some r) = r.left

-- between turns no line waits to be written, and the end of the record was reported, if it has ended
abbrev pub IsWritten : Option Recording → Type 0
IsWritten None = Unit {0}
IsWritten (Some r) = (r.waiting ≡ []) × (r.end ≡ None)

-- The file took all the lines, and the record goes on.
pub record WritesAll (lines took : List ℕ) (old new : Option Recording) (answer : Option RecordEnd)
    : Type 0 where
  pub all : took ≡ lines
  pub no_end : answer ≡ None
  pub goes_on : is_recording new ≡ true
  pub left : room_left new + length took ≡ room_left old

-- The file took a prefix of the lines, which the record had room for; the record has ended, and it
-- is reported why.
pub record WritesPrefix (lines took : List ℕ) (old new : Option Recording)
    (answer : Option RecordEnd) : Type 0 where
  pub rest : List ℕ
  pub is : took ++ rest ≡ lines
  pub reason : RecordEnd
  pub reported : answer ≡ Some reason
  pub over : is_recording new ≡ false
  pub room : length took ≤ room_left old

-- The file took nothing, nothing is reported, and the record is as it was.
pub record WritesNothing (took : List ℕ) (old new : Option Recording) (answer : Option RecordEnd)
    : Type 0 where
  pub nothing : took ≡ []
  pub no_end : answer ≡ None
  pub same : new ≡ old

-- What the file of a record takes in a turn whose events have these lines: all of them, or a prefix
-- of them if the record ends; and nothing if there is no record, or it has ended before.
pub record RecordsTurn (lines took : List ℕ) (old new : Option Recording)
    (answer : Option RecordEnd) : Type 0 where
  pub written : IsWritten new
  pub kept : is_some new ≡ is_some old
  pub recording : is_recording old ≡ true
      → WritesAll lines took old new answer ⊎ WritesPrefix lines took old new answer
  pub idle : is_recording old ≡ false → WritesNothing took old new answer
