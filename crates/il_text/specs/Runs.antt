-- Inner: the results of private functions.
use Rattle.std.specs.Prelude.{◌≡◌, ◌<◌, ◌≤◌, ◌+◌, ◌-◌, ◌^◌, ◌==◌, ◌&&◌, not, Bool, ℕ, true, false, List, ◌∷◌, length, drop, slice_index, slice_range, Option, option_map, min}
use Rattle.std.specs.Char.{to_ascii_uppercase}
use Rattle.std.specs.Str.{byte}
use Rattle.il_text.specs.Lexemes.{lexemes, without_comments}
use Rattle.il_text.specs.Characters.{are_linked}
use Rattle.il_text.specs.Literals.{Signed}

-- ---- own: results of private functions

-- From start to end each character belongs to the one before it; the character at end, if there is
-- one, does not.
pub record IsRun (bytes : List ℕ) (start end : ℕ) : Type 0 where
  pub after : start < end
  pub within : end ≤ length bytes
  pub inner : (k : ℕ) → start < k → k < end
      → are_linked (slice_index bytes (k - 1)) (slice_index bytes k) ≡ true
  pub last : are_linked (slice_index bytes (end - 1)) (slice_index bytes end) ≡ false

-- a number, at most 2 ^ 64 - 1, which is outside each type
abbrev pub capped_number : Option ℕ → Option ℕ
capped_number = option_map (λ n. min n (2 ^ 64 - 1))

-- a number with its sign, its magnitude at most 2 ^ 64 - 1
abbrev pub capped_signed : Option Signed → Option Signed
capped_signed = option_map (λ z. (z.0, min z.1 (2 ^ 64 - 1)))

-- whether `&N` is at the index, and no character follows that would make the `N` a longer word
unfoldable pub is_negated_and : List ℕ → ℕ → Bool
is_negated_and bytes at =
    slice_index bytes at == byte "&" && to_ascii_uppercase (slice_index bytes (at + 1)) == byte "N"
    && not (are_linked (slice_index bytes (at + 1)) (slice_index bytes (at + 2)))

-- The first lexeme from start on ends at end.
abbrev pub IsFirstLexeme : List ℕ → ℕ → ℕ → Type 0
IsFirstLexeme bytes start end =
    lexemes (without_comments false (drop start bytes))
    ≡ slice_range bytes start end ∷ lexemes (without_comments false (drop end bytes))
