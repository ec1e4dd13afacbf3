-- Lemmas on keys.
use Rattle.std.proofs.Common.{◌≡◌, ℕ, ◌+◌, ◌<◌, ◌==◌, Bool, true, false, not, ◌&&◌, nat_eq, List, ◌∷◌, length, drop, get_or, add-one, refl, sym, ap, ap₂, ◌∙◌, arith}
use Rattle.std.proofs.Math.Seq.{drop-cons}
use Rattle.std.proofs.lemmas.Bool.Decides.{nat_tests}
use Rattle.std.specs.Int.{from_bool}
use Rattle.std.specs.Cmp.Lexicographic.{pointwise}

-- octets were compared up to here: they differ at so many places
abbrev pub compared : ℕ → ℕ → List ℕ → List ℕ → Bool
compared differences i xs ys = (differences == 0) && pointwise nat_eq (drop i xs) (drop i ys)

counted : (d : ℕ) (same : Bool) (rest : Bool)
    → ((d == 0) && (same && rest)) ≡ ((d + from_bool (not same) == 0) && rest)
counted d true rest =
    let none : d + 0 ≡ d = omega arith in ap (λ n. (n == 0) && rest) (sym none)
counted d false rest = by-zero (d == 0) refl
  where
    more : (d + 1 == 0) ≡ false
    more = grind (arith, nat_tests)

    by-zero : (v : Bool) → (d == 0) ≡ v → (v && false) ≡ ((d + 1 == 0) && rest)
    by-zero true e = ap (λ w. w && rest) (sym more)
    by-zero false e = ap (λ w. w && rest) (sym more)

-- one octet more
pub compared-turn : (d i : ℕ) (xs ys : List ℕ) (other : Bool) → i < length xs → i < length ys
    → other ≡ not (nat_eq (get_or xs i 0) (get_or ys i 0))
    → compared d i xs ys ≡ compared (d + from_bool other) (i + 1) xs ys
compared-turn d i xs ys other lx ly is =
    let px : drop i xs ≡ get_or xs i 0 ∷ drop (i + 1) xs = rw (add-one, drop-cons xs i 0) refl in
    let py : drop i ys ≡ get_or ys i 0 ∷ drop (i + 1) ys = rw (add-one, drop-cons ys i 0) refl in
    ap₂ (λ a b. (d == 0) && pointwise nat_eq a b) px py
    ∙ counted d (nat_eq (get_or xs i 0) (get_or ys i 0))
    (pointwise nat_eq (drop (i + 1) xs) (drop (i + 1) ys))
    ∙ ap (λ o. compared (d + from_bool o) (i + 1) xs ys) (sym is)
