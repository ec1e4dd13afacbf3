-- The record of a session over all its turns: what its file took of what happened.
use Rattle.std.specs.Prelude.{ℕ, ◌≡◌, ◌≤◌, ◌⊎◌, true, All, List, [], ◌∷◌, ◌++◌, length, None, Some, is_some}
use Rattle.std.specs.Io.{StartsWith}
use Rattle.bay_server_turn.specs.Recorded.{new_recording}
use Rattle.bay_server_turn.specs.Turns.{ServerData}
use Rattle.bay_server_turn_laws.specs.Events.{turn_events}
use Rattle.bay_server_turn_laws.specs.Records.{lines_of}
use Rattle.cmd_serve.specs.Service.{DoneTurn, server_after}

-- ---- what happened, and what was taken

-- the lines of the events of a turn, in their order, each at the turn's moment
abbrev pub turn_lines : DoneTurn → ServerData → List ℕ
turn_lines t h = lines_of t.now t.line (turn_events t.now t.given t.script h)

-- the lines of the events of all turns
abbrev pub all_lines : List DoneTurn → ServerData → List ℕ
all_lines [] h = []
all_lines (t ∷ ts) h = turn_lines t h ++ all_lines ts (server_after t h)

-- what the file of the record took in all turns
abbrev pub all_taken : List DoneTurn → List ℕ
all_taken [] = []
all_taken (t ∷ ts) = t.took ++ all_taken ts

-- ---- what is recorded

-- no end of the record is logged in this turn
abbrev pub IsEndless : DoneTurn → Type 0
IsEndless t = t.end ≡ None

-- the file takes nothing in this turn, and no end of the record is logged
abbrev pub IsUnrecorded : DoneTurn → Type 0
IsUnrecorded t = (t.took ≡ []) × IsEndless t

-- Each turn in order is recorded: the file takes the lines of all its events, and no end of the
-- record is logged; or it takes a prefix of these lines, and an end is logged. After that the file
-- takes nothing, and no end is logged again.
abbrev pub AreRecorded : ServerData → List DoneTurn → Type 0
AreRecorded h [] = Unit {0}
AreRecorded h (t ∷ ts) =
    ((t.took ≡ turn_lines t h) × IsEndless t × AreRecorded (server_after t h) ts)
    ⊎ (StartsWith (turn_lines t h) t.took × (is_some t.end ≡ true) × All IsUnrecorded ts)

-- Turns are recorded by a record of at most `most` octets: what its file takes in all of them is
-- a prefix of the lines of all their events, and all of these if no end of the record is logged.
pub record IsRecordOf (most : ℕ) (h : ServerData) (turns : List DoneTurn) : Type 0 where
  pub each : AreRecorded h turns
  pub prefix : StartsWith (all_lines turns h) (all_taken turns)
  pub whole : All IsEndless turns → all_taken turns ≡ all_lines turns h
  pub within : length (all_taken turns) ≤ most

-- What is recorded of turns, by the record of the server before them: nothing, if it has none.
pub record KeepsRecord (h : ServerData) (turns : List DoneTurn) : Type 0 where
  pub none : h.recording ≡ None → All IsUnrecorded turns
  pub some : (most : ℕ) → h.recording ≡ Some (new_recording most) → IsRecordOf most h turns
