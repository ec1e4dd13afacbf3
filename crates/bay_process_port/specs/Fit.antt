-- Lines of a process, by their events alone.
use Rattle.std.specs.Prelude.{◌≡◌, ℕ, Bool, true, false, List, length, Option, None, Some, is_some, if◌then◌else◌}
use Rattle.bay_lines.specs.FirstLines.{LineSearchData, Waiting, Overlong, Whole, LiesIn, first_line_of, first_line_view}
use Rattle.bay_lines.specs.declared.first_line.LineSearch.{LineSearch}
use Rattle.bay_server_turn.specs.Served.{line_of}

-- a line has a contact, an input or a measurement
abbrev pub has_process_event : List ℕ → Bool
has_process_event line = is_some (line_of line)

-- there is no whole line
abbrev pub is_waiting : LineSearchData → Bool
is_waiting Waiting = true
is_waiting Overlong = false
is_waiting (Whole line rest) = false

-- a line without an event, such as an empty one, is no line of a turn
abbrev pub line_or_none : List ℕ → Option (List ℕ)
line_or_none line = if has_process_event line then Some line else None

-- this was found as the first line of octets
pub record IsFirstLine (octets : List ℕ) (found : LineSearch) : Type 0 where
  pub value : first_line_view octets found ≡ first_line_of octets
  pub within : LiesIn (length octets) found
