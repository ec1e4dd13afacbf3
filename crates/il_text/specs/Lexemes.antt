-- Cuts a text into lexemes: tokens, blanks and line ends (IEC 61131-3:2003, 2.1 and annex B.2.1).
use Rattle.std.specs.Prelude.{ℕ, Bool, true, false, ◌&&◌, ◌||◌, ◌==◌, if◌then◌else◌, List, [], ◌∷◌, slice_index, codes}
use Rattle.std.specs.Str.{byte}
use Rattle.il_text.specs.Characters.{are_linked}
use Rattle.bay_base.specs.Names.{same_name}

-- ---- IEC 61131-3 2.1.5: comments

-- whether the text begins with `(*`
abbrev pub opens_comment : List ℕ → Bool
opens_comment xs = slice_index xs 0 == byte "(" && slice_index xs 1 == byte "*"

-- whether the text begins with `*)`
abbrev pub ends_comment : List ℕ → Bool
ends_comment xs = slice_index xs 0 == byte "*" && slice_index xs 1 == byte ")"

-- whether the text contains `*)`
unfoldable pub ends_later : List ℕ → Bool
ends_later [] = false
ends_later (x ∷ xs) = ends_comment (x ∷ xs) || ends_later xs

-- in place of the opening of a comment that is not closed: no character (own)
abbrev pub unclosed_comment : ℕ
unclosed_comment = 256

-- a character of a comment as a blank; a line end remains
abbrev pub blank_of : ℕ → ℕ
blank_of x = if x == 10 then 10 else byte " "

-- The text with a space for each character of a comment but its line ends (2.1.5). `inside`: the
-- text begins within a comment. A comment ends at the first `*)` after its `(*`.
unfoldable pub without_comments : Bool → List ℕ → List ℕ
without_comments inside [] = []
without_comments inside (x ∷ []) = (if inside then blank_of x else x) ∷ []
without_comments inside (x ∷ y ∷ xs) =
    if inside then
    (if ends_comment (x ∷ y ∷ xs) then byte " " ∷ byte " " ∷ without_comments false xs
    else blank_of x ∷ without_comments true (y ∷ xs))
    else
    (if opens_comment (x ∷ y ∷ xs)
    then (if ends_later xs then byte " " else unclosed_comment) ∷ byte " "
    ∷ without_comments true xs
    else x ∷ without_comments false (y ∷ xs))

-- ---- own: lexemes, the longest runs of characters that belong together

-- Whether a character and the lexeme directly after it are one lexeme. A `&` joins a lexeme that is
-- just `N`.
unfoldable pub joins_lexeme : ℕ → List ℕ → Bool
joins_lexeme x p = are_linked x (slice_index p 0) || (x == byte "&" && same_name p (codes "N"))

-- a character before the lexemes: part of the first one, or a lexeme of its own
abbrev pub join : ℕ → List (List ℕ) → List (List ℕ)
join x [] = (x ∷ []) ∷ []
join x (p ∷ ps) = if joins_lexeme x p then (x ∷ p) ∷ ps else (x ∷ []) ∷ p ∷ ps

-- The lexemes of a text without comments: the longest runs of characters that belong together. They
-- are joined from the right: when a character is considered, each lexeme after it is complete.
unfoldable pub lexemes : List ℕ → List (List ℕ)
lexemes [] = []
lexemes (x ∷ xs) = join x (lexemes xs)
