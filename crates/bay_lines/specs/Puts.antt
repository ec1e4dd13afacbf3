-- Texts that are appended to the buffer.
use Rattle.std.specs.Prelude.{◌≡◌, ℕ, ◌+◌, nat_le, Bool, true, List, [], ◌∷◌, ◌++◌, length}
use Rattle.std.specs.Borrow.{Bor}

-- whether a text fits after the octets in a buffer of at most `most`
abbrev pub fits_in : ℕ → List ℕ → List ℕ → Bool
fits_in most kept text = nat_le (length kept + length text) most

-- A text was appended to the buffer. `answer`: whether it fitted; if not, only a part may have been
-- appended.
pub record PutsWhole (most : ℕ) (old text new : List ℕ) (answer : Bool) : Type 0 where
  pub fits : answer ≡ fits_in most old text
  pub after : answer ≡ true → new ≡ old ++ text

-- the text of its parts, one after the other
abbrev pub text_of : List (Bor (List ℕ)) → List ℕ
text_of [] = []
text_of (part ∷ parts) = part.now ++ text_of parts
