-- The first line in octets.
use Rattle.std.specs.Prelude.{ℕ, ◌+◌, ◌-◌, ◌<◌, ◌≤◌, ◌==◌, nat_lt, Bool, false, List, length, take, drop, position, slice_get, Option, None, Some, if◌then◌else◌}
use Rattle.bay_lines.specs.declared.first_line.LineSearch.{LineSearch}
use Rattle.bay_lines.specs.declared.first_line.LineSearch.TheVariants as found

-- what octets begin with: no complete line yet; more octets than a line may have; or a line, with
-- the octets after its end
pub data LineSearchData : Type 0 where
  Waiting : LineSearchData
  Overlong : LineSearchData
  Whole : List ℕ → List ℕ → LineSearchData

-- whether an octet is LF
abbrev pub is_lf : ℕ → Bool
is_lf b = b == 10

-- whether an octet is present and is CR
abbrev pub is_return : Option ℕ → Bool
is_return None = false
is_return (Some b) = b == 13

-- whether the last of the octets is CR
abbrev pub ends_in_return : List ℕ → Bool
ends_in_return xs = is_return (slice_get xs (length xs - 1))

-- the octets without a CR at their end
abbrev pub without_return : List ℕ → List ℕ
without_return xs = if ends_in_return xs then take (length xs - 1) xs else xs

-- the first line, from the index of the first LF, if there is one within reach
abbrev pub first_line_at : List ℕ → Option ℕ → LineSearchData
first_line_at xs None = if nat_lt 256 (length xs) then Overlong else Waiting
first_line_at xs (Some k) = Whole (without_return (take k xs)) (drop (k + 1) xs)

-- The first line. A line has at most 256 octets before its LF; a CR before the LF is no part of the
-- line.
abbrev pub first_line_of : List ℕ → LineSearchData
first_line_of xs = first_line_at xs (position is_lf (take 257 xs))

-- the view of the code's result, which has lengths: of the line, and of the line with its end
abbrev pub first_line_view : List ℕ → LineSearch → LineSearchData
first_line_view xs found.Waiting = Waiting
first_line_view xs found.Overlong = Overlong
first_line_view xs (found.Whole line end) = Whole (take line xs) (drop end xs)

-- a line that was found lies within the first n octets
abbrev pub LiesIn : ℕ → LineSearch → Type 0
LiesIn n found.Waiting = Unit {0}
LiesIn n found.Overlong = Unit {0}
LiesIn n (found.Whole line end) = (line < end) × (end ≤ n) × (line ≤ 256)
