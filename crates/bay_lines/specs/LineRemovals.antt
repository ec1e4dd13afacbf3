-- Octets that arrive in pieces, and lines that are removed from the buffer.
use Rattle.std.specs.Prelude.{◌≡◌, ◌≢◌, ℕ, All, List, [], ◌∷◌, ◌++◌}
use Rattle.bay_lines.specs.FirstLines.{LineSearchData, Waiting, Overlong, Whole, first_line_of, without_return}

-- a step on the buffer: octets arrive, or the first line is removed
pub data BufferStep : Type 0 where
  Comes : List ℕ → BufferStep
  Takes : BufferStep

-- the removed lines, and the octets still in the buffer
pub record RemovedLines : Type 0 where
  pub lines : List (List ℕ)
  pub kept : List ℕ

-- the removed lines with one before them
abbrev pub with_line : List ℕ → RemovedLines → RemovedLines
with_line line c = record { lines = line ∷ c.lines; kept = c.kept }

-- after a removal: with a complete line, it is removed and the continuation runs on the rest; else
-- the continuation runs on the unchanged buffer
abbrev pub after_removal : LineSearchData → List ℕ → (List ℕ → RemovedLines) → RemovedLines
after_removal Waiting kept later = later kept
after_removal Overlong kept later = later kept
after_removal (Whole line rest) kept later = with_line line (later rest)

-- the result of steps on a buffer; if it does not begin with a complete line, none is removed
abbrev pub removed_lines : List BufferStep → List ℕ → RemovedLines
removed_lines [] kept = record { lines = []; kept = kept }
removed_lines (Comes octets ∷ moves) kept = removed_lines moves (kept ++ octets)
removed_lines (Takes ∷ moves) kept = after_removal (first_line_of kept) kept (removed_lines moves)

-- all octets that arrive
abbrev pub arrived_octets : List BufferStep → List ℕ
arrived_octets [] = []
arrived_octets (Comes octets ∷ moves) = octets ++ arrived_octets moves
arrived_octets (Takes ∷ moves) = arrived_octets moves

-- a piece of octets is a line with its end: its last octet is its only LF, and without the LF and a
-- CR before it, it is the line
pub record IsLine (line piece : List ℕ) : Type 0 where
  pub content : List ℕ
  pub ended : piece ≡ content ++ 10 ∷ []
  pub single : All (λ b. b ≢ 10) content
  pub line_is : line ≡ without_return content

-- a text consists of these lines, each with its end, one after the other
abbrev pub AreLines : List (List ℕ) → List ℕ → Type 0
AreLines [] text = text ≡ []
AreLines (line ∷ lines) text =
    (piece : List ℕ) × (rest : List ℕ) × (text ≡ piece ++ rest) × IsLine line piece
    × AreLines lines rest

-- The removed lines, each with its end, followed by the octets still in the buffer, are all octets
-- that arrived: no line is lost, repeated or joined with another.
pub record LosesNothing (moves : List BufferStep) : Type 0 where
  pub text : List ℕ
  pub lines : AreLines (removed_lines moves []).lines text
  pub whole : arrived_octets moves ≡ text ++ (removed_lines moves []).kept
