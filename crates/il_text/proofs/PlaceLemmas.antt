-- The number of the last line, octet by octet.
use Rattle.std.proofs.Common.{◌≡◌, ◌≢◌, ℕ, ◌+◌, ◌<◌, ◌≤◌, List, [], ◌∷◌, length, drop, slice_index, eqb, refl, arith, length-drop}
use Rattle.std.proofs.lemmas.Bool.{lt-ltb, ne_eqb}
use Rattle.std.proofs.Math.Bool.{and-false}
use Rattle.il_text.specs.Places.{last_line}
use Rattle.bay_base.proofs.ListLemmas.{front_of, none-left}

cons-begins : (x : ℕ) (xs : List ℕ) → x ≡ 10 → 0 < length xs → last_line (x ∷ xs) ≡ last_line xs + 1
unfolding last_line
cons-begins x xs e h = rw (e, lt-ltb 0 (length xs) h) refl

cons-other : (x : ℕ) (xs : List ℕ) → x ≢ 10 → last_line (x ∷ xs) ≡ last_line xs
unfolding last_line
cons-other x xs e = rw (ne_eqb x 10 e) refl

cons-last : (x : ℕ) → last_line (x ∷ []) ≡ last_line []
unfolding last_line
cons-last x = rw (and-false (eqb x 10)) refl

pub line-begins : (bs : List ℕ) (i : ℕ) → i + 1 < length bs → slice_index bs i ≡ 10
    → last_line (drop i bs) ≡ last_line (drop (i + 1) bs) + 1
line-begins bs i h e = let l : 0 < length (drop (i + 1) bs) = simp length-drop (omega arith) in
    let w : i < length bs = omega arith in rw (front_of bs i w) (cons-begins _ _ e l)

pub line-goes-on : (bs : List ℕ) (i : ℕ) → i < length bs → slice_index bs i ≢ 10
    → last_line (drop i bs) ≡ last_line (drop (i + 1) bs)
line-goes-on bs i h e = rw (front_of bs i h) (cons-other _ _ e)

pub text-ends : (bs : List ℕ) (i : ℕ) → i < length bs → length bs ≤ i + 1
    → last_line (drop i bs) ≡ last_line (drop (i + 1) bs)
text-ends bs i h e = rw (front_of bs i h, none-left bs (i + 1) e) (cons-last _)

pub none-last : (bs : List ℕ) (i : ℕ) → length bs ≤ i → last_line (drop i bs) ≡ 1
unfolding last_line
none-last bs i h = rw (none-left bs i h) refl

pub ruleset line_rules = (line-begins, line-goes-on, text-ends, none-last)
