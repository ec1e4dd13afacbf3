-- Blanks, and comments within one line, may be spelled otherwise.
use Rattle.std.specs.Prelude.{◌≡◌, ℕ, ◌<◌, ◌==◌, Bool, true, false, if◌then◌else◌, List, [], ◌∷◌, ◌++◌, length, Result}
use Rattle.std.specs.List.{list_all}
use Rattle.il_text.specs.Characters.{is_blank}
use Rattle.il_text.specs.Lexemes.{opens_comment, ends_comment, without_comments}
use Rattle.il_text.specs.Listing.{PlainProgram}
use Rattle.il_text.specs.Texts.{ReadsAs}
use Rattle.il_text.specs.declared.fault.TextFault.{TextFault}

-- ---- IEC 61131-3 2.1.4, 2.1.5: blanks and comments

-- whether a text ends within a comment; `inside`: it begins within one
unfoldable pub ends_inside : Bool → List ℕ → Bool
ends_inside inside [] = inside
ends_inside inside (x ∷ []) = inside
ends_inside inside (x ∷ y ∷ xs) =
    if inside
    then (if ends_comment (x ∷ y ∷ xs) then ends_inside false xs else ends_inside true (y ∷ xs))
    else (if opens_comment (x ∷ y ∷ xs) then ends_inside true xs else ends_inside false (y ∷ xs))

-- The text is spaces, tabs and whole comments without a line end, at least one of them.
pub record AreBlanks (w : List ℕ) : Type 0 where
  pub some : 0 < length w
  pub closed : ends_inside false w ≡ false
  pub blank : list_all is_blank (without_comments false w) ≡ true

-- Other blanks in place of blanks, outside of comments, do not change how a text is read.
abbrev pub BlanksMayBeRespelled : Type 0
BlanksMayBeRespelled =
    (before blanks others after : List ℕ) (read : Result PlainProgram TextFault)
    → ends_inside false before ≡ false → AreBlanks blanks → AreBlanks others
    → ReadsAs (before ++ (blanks ++ after)) read → ReadsAs (before ++ (others ++ after)) read

-- ---- own: line ends

-- whether a text ends with a CR
abbrev pub ends_with_cr : List ℕ → Bool
ends_with_cr [] = false
ends_with_cr (x ∷ []) = x == 13
ends_with_cr (x ∷ y ∷ xs) = ends_with_cr (y ∷ xs)

-- CR LF in place of an LF, outside of comments and not after a CR, does not change how a text is
-- read.
abbrev pub LineEndsMayBeRespelled : Type 0
LineEndsMayBeRespelled =
    (before after : List ℕ) (read : Result PlainProgram TextFault)
    → ends_inside false before ≡ false → ends_with_cr (without_comments false before) ≡ false
    → ReadsAs (before ++ (10 ∷ after)) read → ReadsAs (before ++ (13 ∷ 10 ∷ after)) read
