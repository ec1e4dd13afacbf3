-- Items one behind the other.
use Rattle.std.proofs.Common.{◌≡◌, ℕ, zero, suc, ◌+◌, ◌<◌, List, [], ◌∷◌, ◌++◌, length, get_or, take, refl, sym, ap, ◌∙◌, arith, append-nil}
use Rattle.std.proofs.lemmas.List.{append_assoc, take_more}
use Rattle.il_image.specs.Images.{each_spelled}

pub each_spelled-append : {A : Type 0} (spell : A → List ℕ) (xs ys : List A)
    → each_spelled spell (xs ++ ys) ≡ each_spelled spell xs ++ each_spelled spell ys
each_spelled-append spell [] ys = refl
each_spelled-append spell (x ∷ xs) ys =
    ap (λ (zs : List ℕ). spell x ++ zs) (each_spelled-append spell xs ys)
    ∙ sym (append_assoc (spell x) (each_spelled spell xs) (each_spelled spell ys))

-- one more item
pub each_spelled-more : {A : Type 0} (spell : A → List ℕ) (xs : List A) (i : ℕ) (x : A)
    → i < length xs → x ≡ get_or xs i x
    → each_spelled spell (take (i + 1) xs) ≡ each_spelled spell (take i xs) ++ spell x
each_spelled-more spell xs i x within is =
    ap (each_spelled spell) (take_more xs i x within ∙ ap (λ y. take i xs ++ y ∷ []) (sym is))
    ∙ each_spelled-append spell (take i xs) (x ∷ [])
    ∙ ap (λ (zs : List ℕ). each_spelled spell (take i xs) ++ zs) (append-nil (spell x))

-- one turn of a loop that spells items
pub each-turn : {A : Type 0} (spell : A → List ℕ) (xs : List A) (i : ℕ) (x : A)
    (before now new : List ℕ) → i < length xs → x ≡ get_or xs i x
    → now ≡ before ++ each_spelled spell (take i xs) → new ≡ now ++ spell x
    → new ≡ before ++ each_spelled spell (take (i + 1) xs)
each-turn spell xs i x before now new within is so_far more =
    more ∙ ap (λ (zs : List ℕ). zs ++ spell x) so_far
    ∙ append_assoc before (each_spelled spell (take i xs)) (spell x)
    ∙ ap (λ (zs : List ℕ). before ++ zs) (sym (each_spelled-more spell xs i x within is))

-- within a list what is read past its end does not matter
within-same : {A : Type 0} (xs : List A) (i : ℕ) (d e : A) → i < length xs
    → get_or xs i d ≡ get_or xs i e
within-same [] i d e within = absurd (omega arith)
within-same (x ∷ xs) zero d e within = refl
within-same (x ∷ xs) (suc i) d e within = within-same xs i d e (omega arith)

pub each-turn-at : {A : Type 0} (spell : A → List ℕ) (xs : List A) (i : ℕ) (d : A)
    (before now new : List ℕ) → i < length xs → now ≡ before ++ each_spelled spell (take i xs)
    → new ≡ now ++ spell (get_or xs i d) → new ≡ before ++ each_spelled spell (take (i + 1) xs)
each-turn-at spell xs i d before now new within so_far more =
    each-turn spell xs i (get_or xs i d) before now new within
    (within-same xs i d (get_or xs i d) within) so_far more
