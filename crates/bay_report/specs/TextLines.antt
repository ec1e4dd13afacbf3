-- The lines of a text.
use Rattle.std.specs.Prelude.{◌≡◌, ℕ, ◌-◌, Bool, ◌==◌, List, ◌∷◌, ◌++◌, length, take, drop, map, if◌then◌else◌, []}
use Rattle.std.specs.List.{onto_first}
use Rattle.std.specs.Str.{bytes_eq}

-- the octet is a line feed
abbrev pub is_line_feed : ℕ → Bool
is_line_feed b = b == 10

-- the lines of a text with their ends: each runs up to its line feed, and the last may have none
abbrev pub pieces : List ℕ → List (List ℕ)
pieces [] = []
pieces (b ∷ bs) = if is_line_feed b then (b ∷ []) ∷ pieces bs else onto_first b (pieces bs)

-- whether a list ends with another
abbrev pub ends_with : List ℕ → List ℕ → Bool
ends_with end xs = bytes_eq (drop (length xs - length end) xs) end

-- the list without that end, if it has it
abbrev pub without_end : List ℕ → List ℕ → List ℕ
without_end end xs = if ends_with end xs then take (length xs - length end) xs else xs

-- a line without its end, which is LF or CR LF
abbrev pub line_without_end : List ℕ → List ℕ
line_without_end piece =
    if ends_with (10 ∷ []) piece then without_end (13 ∷ []) (without_end (10 ∷ []) piece) else piece

-- the lines of a text, without their ends
abbrev pub lines_of : List ℕ → List (List ℕ)
lines_of text = map line_without_end (pieces text)

-- the line is a text's first, and the rest is the text after it
pub record CutsLine (text line rest : List ℕ) : Type 0 where
  pub piece : List ℕ
  pub whole : text ≡ piece ++ rest
  pub first : pieces text ≡ piece ∷ pieces rest
  pub line_is : line ≡ line_without_end piece
