-- The lines that wait to be logged, and how many were lost.
use Rattle.std.specs.Prelude.{◌≡◌, ℕ, ◌+◌, ◌==◌, nat_le, min, Bool, true, List, [], ◌++◌, length, codes, if◌then◌else◌}
use Rattle.std.specs.Fmt.{decimal}

-- the octets of lines that are not yet written, and the number of lines lost since the last one
-- that fitted
pub record LogData : Type 0 where
  pub waiting : List ℕ
  pub lost : ℕ

-- the line with the number of lost lines, or no octets if none were lost
abbrev pub notice : ℕ → List ℕ
notice lost = if lost == 0 then [] else decimal lost ++ codes " lines of the log were lost\n"

-- the waiting lines, then the notice of lost ones, then a line
abbrev pub queued_with_line : LogData → List ℕ → List ℕ
queued_with_line log line = log.waiting ++ (notice log.lost ++ line)

-- A text was appended whole; or a part of it, if it does not fit into 65,536 octets.
pub record AppendsIfFits (before text after : List ℕ) (fits : Bool) : Type 0 where
  pub fitted : fits ≡ nat_le (length (before ++ text)) 65536
  pub whole : fits ≡ true → after ≡ before ++ text
  pub part : (added : List ℕ) × (after ≡ before ++ added)

-- The log after a line: the line waits whole if it fits into 65,536 octets; else it is lost and
-- counted.
abbrev pub with_line : List ℕ → LogData → LogData
with_line line log =
    if nat_le (length (queued_with_line log line)) 65536
    then record { waiting = queued_with_line log line; lost = 0 }
    else record { waiting = log.waiting; lost = min (log.lost + 1) 18446744073709551615 }
