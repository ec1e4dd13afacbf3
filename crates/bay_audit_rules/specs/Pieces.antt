-- The pieces of a line, and the parts of a time: octets that belong together.
use Rattle.std.specs.Prelude.{ℕ, ◌==◌, Bool, true, false, ◌&&◌, ◌||◌, List, [], ◌∷◌, if◌then◌else◌}
use Rattle.std.specs.Char.{is_ascii_digit}
use Rattle.std.specs.Int.{is_in_range}
use Rattle.bay_config.specs.Key.{is_name_character}
use Rattle.bay_audit_rules.specs.declared.pieces.Cut.{Cut}
use Rattle.bay_audit_rules.specs.declared.pieces.Cut.TheVariants.{Line, Time}

-- a letter, a digit, `_` or `-`
abbrev pub is_word_octet : ℕ → Bool
is_word_octet b = is_name_character b || b == 45

-- `<`, `=` or `>`
abbrev pub is_relation_octet : ℕ → Bool
is_relation_octet b = is_in_range 60 62 b

-- whether two truth values are equal
abbrev pub same_truth : Bool → Bool → Bool
same_truth a b = if a then b else (if b then false else true)

-- two adjacent octets belong to one piece: in a line both are of a word or both of a relation; in a
-- time both are digits or neither is
abbrev pub joins : Cut → ℕ → ℕ → Bool
joins Line a b =
    (is_word_octet a && is_word_octet b) || (is_relation_octet a && is_relation_octet b)
joins Time a b = same_truth (is_ascii_digit a) (is_ascii_digit b)

-- the octet belongs to the piece after it
abbrev pub joins_piece : Cut → ℕ → List ℕ → Bool
joins_piece cut a [] = false
joins_piece cut a (b ∷ bs) = joins cut a b

-- the pieces with an octet before them, which joins the first piece if both belong together
abbrev pub prepend : Cut → ℕ → List (List ℕ) → List (List ℕ)
prepend cut a [] = (a ∷ []) ∷ []
prepend cut a (p ∷ ps) = if joins_piece cut a p then (a ∷ p) ∷ ps else (a ∷ []) ∷ p ∷ ps

-- the pieces of a list of octets
abbrev pub pieces : Cut → List ℕ → List (List ℕ)
pieces cut [] = []
pieces cut (b ∷ bs) = prepend cut b (pieces cut bs)
