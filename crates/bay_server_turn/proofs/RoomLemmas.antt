-- There is room for an entry of each association that is not told yet.
use Rattle.std.proofs.Common.{◌≡◌, ℕ, zero, suc, ◌+◌, ◌<◌, true, false, cond, List, [], ◌∷◌, length, count_by, slice_index_or, slice_set, refl, ap, arith}
use Rattle.std.proofs.lemmas.List.Sums.{count_by-le-length, sum_by-cons}
use Rattle.bay_server_turn.specs.Room.{HasEntries}
use Rattle.bay_server_turn.specs.AssociationStates.{is_close_reported}
use Rattle.bay_server_turn.specs.declared.association_state.AssociationState.{AssociationState}
use Rattle.bay_server_turn.specs.declared.association_state.AssociationState.TheVariants.{Steady, Closed}

-- an entry that is told, or none
abbrev entry_of : AssociationState → ℕ
entry_of s = cond (is_close_reported s) 1 0

pub told-set : (xs : List AssociationState) (k : ℕ) (v : AssociationState) → k < length xs
    → count_by is_close_reported (slice_set xs k v) + entry_of (slice_index_or xs k Steady)
    ≡ count_by is_close_reported xs + entry_of v
told-set [] k v h = absurd (omega arith)
told-set (x ∷ xs) zero v h =
    let new : count_by is_close_reported (slice_set (x ∷ xs) zero v)
    ≡ entry_of v + count_by is_close_reported xs =
    sum_by-cons entry_of v xs in
    let old : count_by is_close_reported (x ∷ xs) ≡ entry_of x + count_by is_close_reported xs =
    sum_by-cons entry_of x xs in
    let here : entry_of (slice_index_or (x ∷ xs) zero Steady) ≡ entry_of x = refl in
    omega arith
told-set (x ∷ xs) (suc k) v h =
    let inner : k < length xs = omega arith in
    let new : count_by is_close_reported (slice_set (x ∷ xs) (suc k) v)
    ≡ entry_of x + count_by is_close_reported (slice_set xs k v) =
    sum_by-cons entry_of x (slice_set xs k v) in
    let old : count_by is_close_reported (x ∷ xs) ≡ entry_of x + count_by is_close_reported xs =
    sum_by-cons entry_of x xs in
    let here : entry_of (slice_index_or (x ∷ xs) (suc k) Steady)
    ≡ entry_of (slice_index_or xs k Steady) = refl in
    omega (arith, told-set xs k v inner)

set-length : (xs : List AssociationState) (k : ℕ) (v : AssociationState)
    → length (slice_set xs k v) ≡ length xs
set-length [] k v = omega arith
set-length (x ∷ xs) zero v = omega arith
set-length (x ∷ xs) (suc k) v = omega (arith, set-length xs k v)

-- one that was not told is told now
pub told-more : (xs : List AssociationState) (k : ℕ) (v : AssociationState) → k < length xs
    → is_close_reported (slice_index_or xs k Steady) ≡ false → is_close_reported v ≡ true
    → count_by is_close_reported (slice_set xs k v) ≡ count_by is_close_reported xs + 1
told-more xs k v h isnt is =
    let none : entry_of (slice_index_or xs k Steady) ≡ 0 = ap (λ b. cond b 1 0) isnt in
    let one : entry_of v ≡ 1 = ap (λ b. cond b 1 0) is in
    omega (arith, told-set xs k v h)

-- one that is told, or is not, still is
pub told-same : (xs : List AssociationState) (k : ℕ) (v : AssociationState) → k < length xs
    → is_close_reported v ≡ is_close_reported (slice_index_or xs k Steady)
    → count_by is_close_reported (slice_set xs k v) ≡ count_by is_close_reported xs
told-same xs k v h same =
    let e : entry_of v ≡ entry_of (slice_index_or xs k Steady) = ap (λ b. cond b 1 0) same in
    omega (arith, told-set xs k v h)

-- while one is not told, there are fewer entries than associations
pub told-room : (xs : List AssociationState) (k : ℕ) → k < length xs
    → is_close_reported (slice_index_or xs k Steady) ≡ false
    → count_by is_close_reported xs < length xs
told-room xs k h isnt =
    let is : is_close_reported Closed ≡ true = refl in
    omega (
      arith,
      told-more xs k Closed h isnt is,
      count_by-le-length is_close_reported (slice_set xs k Closed),
      set-length xs k Closed,
    )

-- then there is room for its entry
pub entry-room : {C M : Type 0} (xs : List AssociationState) (k : ℕ) (closed : List C)
    (memory : List M)
    → length xs ≡ 8 → k < 8 → is_close_reported (slice_index_or xs k Steady) ≡ false
    → HasEntries xs closed memory → (length closed < 8) × (length memory < 8)
entry-room xs k closed memory sized low isnt counted =
    let few = told-room xs k (omega (arith, sized, low)) isnt in
    (omega (arith, few, sized, counted), omega (arith, few, sized, counted))
