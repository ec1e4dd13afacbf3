-- Line ends may be spelled CR LF in place of LF, also within comments.
use Rattle.std.specs.Prelude.{◌≡◌, ◌↔◌, ℕ, ◌==◌, not, Bool, true, false, if◌then◌else◌, List, [], ◌∷◌, ◌++◌, Result}
use Rattle.std.specs.List.{list_all}
use Rattle.il_text.specs.Listing.{PlainProgram}
use Rattle.il_text.specs.Respelling.{ends_inside}
use Rattle.il_text.specs.Texts.{ReadsAs}
use Rattle.il_text.specs.declared.fault.TextFault.{TextFault}

-- CR LF in place of an LF within a comment does not change how a text is read.
abbrev pub CommentsMayHaveCrLf : Type 0
CommentsMayHaveCrLf =
    (before after : List ℕ) (read : Result PlainProgram TextFault)
    → ends_inside false before ≡ true
    → ReadsAs (before ++ (10 ∷ after)) read ↔ ReadsAs (before ++ (13 ∷ 10 ∷ after)) read

-- the text with CR LF in place of each LF
abbrev pub with_cr_lf : List ℕ → List ℕ
with_cr_lf [] = []
with_cr_lf (x ∷ xs) = if x == 10 then 13 ∷ 10 ∷ with_cr_lf xs else x ∷ with_cr_lf xs

-- a character other than CR
abbrev pub is_no_cr : ℕ → Bool
is_no_cr x = not (x == 13)

-- A text without CR is read in the same way if each of its line ends is CR LF.
abbrev pub FilesMayHaveCrLf : Type 0
FilesMayHaveCrLf =
    (text : List ℕ) (read : Result PlainProgram TextFault) → list_all is_no_cr text ≡ true
    → ReadsAs text read ↔ ReadsAs (with_cr_lf text) read
