-- What stands in a list after one item is replaced.
use Rattle.std.proofs.Common.{◌≡◌, ℕ, zero, suc, ◌<◌, List, [], ◌∷◌, length, slice_get, slice_set, refl, ap, arith, Some}

pub set-here : {A : Type 0} (xs : List A) (i : ℕ) (x : A) → i < length xs
    → slice_get (slice_set xs i x) i ≡ Some x
set-here [] i x h = absurd (omega arith)
set-here (y ∷ xs) zero x h = refl
set-here (y ∷ xs) (suc i) x h = set-here xs i x (omega arith)

pub set-elsewhere : {A : Type 0} (xs : List A) (i j : ℕ) (x : A) → (j ≡ i → ⊥)
    → slice_get (slice_set xs i x) j ≡ slice_get xs j
set-elsewhere (y ∷ xs) zero zero x ne = absurd (ne refl)
set-elsewhere (y ∷ xs) (suc i) (suc j) x ne = set-elsewhere xs i j x (λ e. ne (ap suc e))
set-elsewhere i x y v ne = refl
