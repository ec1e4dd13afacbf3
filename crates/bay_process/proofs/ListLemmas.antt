-- Lemmas on lists by place.
use Rattle.std.proofs.Common.{◌≡◌, ℕ, zero, suc, ◌+◌, ◌<◌, ◌⊎◌, ⊎_elim, inl, inr, Bool, cond, List, [], ◌∷◌, ◌++◌, length, map, position, slice_get, Some, None, Bor, refl, ap, sym, subst, ◌∙◌, arith}
use Rattle.std.specs.List.{position_from}
use Rattle.std.specs.Slice.{IsItemAt}
use Rattle.std.proofs.lemmas.Iterator.Adapters.{position_from-zero}
use Rattle.std.proofs.lemmas.Option.{slice_get_read, slice_get_past}

-- what `get` answers
pub got-some : {X : Type 0} (xs : List X) (i : ℕ) (b : Bor X) → IsItemAt xs i (Some b)
    → slice_get xs i ≡ Some b.now
got-some xs i b h = slice_get_read xs (length xs) i b.now refl h.3.0 h.1

pub got-none : {X : Type 0} (xs : List X) (i : ℕ) → IsItemAt xs i None → slice_get xs i ≡ None
got-none xs i h = slice_get_past xs i h.3

pub get-within : {X : Type 0} (xs : List X) (k : ℕ) → k < length xs
    → (x : X) × (slice_get xs k ≡ Some x)
get-within [] k lt = absurd (omega arith)
get-within (x ∷ xs) zero lt = (x, refl)
get-within (x ∷ xs) (suc k) lt = get-within xs k (omega arith)

pub length-snoc : {X : Type 0} (xs : List X) (x : X) (n : ℕ) → length xs ≡ n
    → length (xs ++ x ∷ []) ≡ n + 1
length-snoc [] x n e = omega arith
length-snoc (y ∷ xs) x n e = let rest : length (xs ++ x ∷ []) ≡ length xs + 1 =
    length-snoc xs x (length xs) refl in omega (arith, rest)

pub get-snoc : {X : Type 0} (xs : List X) (x : X) (k : ℕ) (y : X)
    → slice_get (xs ++ x ∷ []) k ≡ Some y → (slice_get xs k ≡ Some y) ⊎ ((k ≡ length xs) × (x ≡ y))
get-snoc [] x zero y h = inr (refl, cc)
get-snoc [] x (suc k) y h = absurd cc
get-snoc (z ∷ xs) x zero y h = inl h
get-snoc (z ∷ xs) x (suc k) y h =
    ⊎_elim (λ (l : slice_get xs k ≡ Some y). inl l)
    (λ (r : (k ≡ length xs) × (x ≡ y)). inr (ap suc r.0, r.1)) (get-snoc xs x k y h)

-- what holds of each item at its place, with one item more
pub each-snoc : {X : Type 0} (P : ℕ → X → Type 0) (xs : List X) (x : X)
    → ((k : ℕ) (y : X) → slice_get xs k ≡ Some y → P k y) → P (length xs) x
    → (k : ℕ) (y : X) → slice_get (xs ++ x ∷ []) k ≡ Some y → P k y
each-snoc P xs x all own k y h =
    ⊎_elim (λ (l : slice_get xs k ≡ Some y). all k y l)
    (λ (r : (k ≡ length xs) × (x ≡ y)).
    subst (λ j. P j y) (sym r.0) (subst (P (length xs)) r.1 own))
    (get-snoc xs x k y h)

-- the place of the first item whose image passes
position-from-mapped : {X Y : Type 0} (f : X → Y) (p : Y → Bool) (xs : List X) (i : ℕ)
    → position_from p i (map f xs) ≡ position_from (λ x. p (f x)) i xs
position-from-mapped f p [] i = refl
position-from-mapped f p (x ∷ xs) i =
    ap (λ o. cond (p (f x)) (Some i) o) (position-from-mapped f p xs (i + 1))

pub position-mapped : {X Y : Type 0} (f : X → Y) (p : Y → Bool) (xs : List X)
    → position (λ x. p (f x)) xs ≡ position p (map f xs)
position-mapped f p xs =
    position_from-zero (λ x. p (f x)) xs ∙ sym (position-from-mapped f p xs 0)
    ∙ sym (position_from-zero p (map f xs))
