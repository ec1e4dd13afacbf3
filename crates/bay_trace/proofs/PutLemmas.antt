-- Lemmas on what is put behind lines that wait.
use Rattle.std.proofs.Common.{◌≡◌, ℕ, ◌+◌, ◌/◌, ◌%◌, ◌<◌, ◌≤◌, Bool, nat_lt, None, Some, drop, get_or, add-one, true, false, List, [], ◌∷◌, ◌++◌, length, refl, sym, ap, ◌∙◌, arith}
use Rattle.std.proofs.Math.Seq.{drop-cons}
use Rattle.std.proofs.lemmas.Bool.Decides.{nat_tests}
use Rattle.std.proofs.lemmas.List.{drop_all}
use Rattle.std.specs.List.{position, position_or_len, slice_index}
use Rattle.hex.specs.Hex.{encode_lower, encode_with, lower_digits}
use Rattle.bay_trace.specs.Recording.{text_after_moment}
use Rattle.bay_trace.specs.Trace.{is_space}

-- the two digits of an octet
abbrev pub digits_at : List ℕ → ℕ → List ℕ
digits_at octets k =
    slice_index lower_digits (get_or octets k 0 / 16)
    ∷ slice_index lower_digits (get_or octets k 0 % 16) ∷ []

-- those of the next
pub digits-turn : (octets : List ℕ) (k : ℕ) → k < length octets
    → encode_lower (drop k octets) ≡ digits_at octets k ++ encode_lower (drop (k + 1) octets)
unfolding encode_with
digits-turn octets k lt =
    let next : drop k octets ≡ get_or octets k 0 ∷ drop (k + 1) octets =
    rw (add-one, drop-cons octets k 0) refl in
    ap encode_lower next

-- ---- what stands behind the first space

pub behind-some : (line : List ℕ) (at : ℕ) → position is_space line ≡ Some at
    → drop (at + 1) line ≡ text_after_moment line
behind-some line at e = by_test (nat_lt (position_or_len is_space line) (length line)) refl
  where
    by_test : (v : Bool) → nat_lt (position_or_len is_space line) (length line) ≡ v
        → drop (at + 1) line ≡ text_after_moment line
    by_test true l =
        let some : Some (position_or_len is_space line) ≡ Some at = rw l at e in
        let is : position_or_len is_space line ≡ at = cc in
        ap (λ k. drop (k + 1) line) (sym is)
    by_test false l = let none : None ≡ Some at = rw l at e in absurd cc

pub behind-none : (line : List ℕ) → position is_space line ≡ None
    → drop (length line) line ≡ text_after_moment line
behind-none line e = by_test (nat_lt (position_or_len is_space line) (length line)) refl
  where
    by_test : (v : Bool) → nat_lt (position_or_len is_space line) (length line) ≡ v
        → drop (length line) line ≡ text_after_moment line
    by_test true l =
        let some : Some (position_or_len is_space line) ≡ None = rw l at e in absurd cc
    by_test false l =
        let all : length line ≤ position_or_len is_space line = grind (arith, nat_tests) in
        drop_all (length line) line (omega arith)
        ∙ sym (drop_all (position_or_len is_space line + 1) line (omega (arith, all)))
