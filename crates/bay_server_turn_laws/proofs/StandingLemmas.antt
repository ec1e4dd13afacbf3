-- How eight associations stand, as replies do not fit and associations are closed.
use Rattle.std.proofs.Common.{Bool, List, None, Some, [], ap, arith, cond, false, get_or, length, nat_lt, not, position, refl, replicate, set, suc, sym, true, zero, ℕ, ◌+◌, ◌∙◌, ◌∷◌, ◌≡◌, ◌≤◌}
use Rattle.std.proofs.lemmas.Bool.{ltb-false}
use Rattle.std.proofs.lemmas.List.{length-set}
use Rattle.std.specs.List.{position_or_len}
use Rattle.bay_server_turn.specs.AssociationStates.{after_full, is_full, is_draining}
use Rattle.bay_server_turn.specs.declared.association_state.AssociationState.{AssociationState}
use Rattle.bay_server_turn.specs.declared.association_state.AssociationState.TheVariants.{Full, Closed, Draining, DrainingFull, Steady}

-- so many more, if this one is not gone
abbrev pub and_one : AssociationState → ℕ → ℕ
and_one Steady n = suc n
and_one Full n = suc n
and_one Draining n = suc n
and_one DrainingFull n = suc n
and_one Closed n = n

-- how many are not gone
abbrev pub remaining : List AssociationState → ℕ
remaining [] = 0
remaining (x ∷ xs) = and_one x (remaining xs)

and_one-filled : (x : AssociationState) (n : ℕ) → and_one (after_full x) n ≡ and_one x n
and_one-filled Steady n = refl
and_one-filled Full n = refl
and_one-filled Draining n = refl
and_one-filled DrainingFull n = refl
and_one-filled Closed n = refl

filled-leaving : (x : AssociationState) → is_draining x ≡ false → is_draining (after_full x) ≡ false
filled-leaving Steady e = refl
filled-leaving Full e = refl
filled-leaving Draining e = e
filled-leaving DrainingFull e = e
filled-leaving Closed e = refl

filled-remaining : (l : List AssociationState) (j : ℕ)
    → remaining (set l j (after_full (get_or l j Steady))) ≡ remaining l
filled-remaining [] j = refl
filled-remaining (x ∷ l) zero = and_one-filled x (remaining l)
filled-remaining (x ∷ l) (suc j) = ap (and_one x) (filled-remaining l j)

filled-full : (l : List AssociationState) (j i : ℕ) → get_or l i Steady ≡ Full
    → get_or (set l j (after_full (get_or l j Steady))) i Steady ≡ Full
filled-full [] j i e = e
filled-full (x ∷ l) zero zero e = ap after_full e
filled-full (x ∷ l) zero (suc i) e = e
filled-full (x ∷ l) (suc j) zero e = e
filled-full (x ∷ l) (suc j) (suc i) e = filled-full l j i e

filled-kept : (l : List AssociationState) (j i : ℕ) → is_draining (get_or l i Steady) ≡ false
    → is_draining (get_or (set l j (after_full (get_or l j Steady))) i Steady) ≡ false
filled-kept [] j i e = e
filled-kept (x ∷ l) zero zero e = filled-leaving x e
filled-kept (x ∷ l) zero (suc i) e = e
filled-kept (x ∷ l) (suc j) zero e = e
filled-kept (x ∷ l) (suc j) (suc i) e = filled-kept l j i e

-- some replies did not fit
pub record Fills (l m : List AssociationState) : Type 0 where
  pub sized : length m ≡ length l
  pub remain : remaining m ≡ remaining l
  pub full : (i : ℕ) → get_or l i Steady ≡ Full → get_or m i Steady ≡ Full
  pub kept : (i : ℕ) → is_draining (get_or l i Steady) ≡ false
      → is_draining (get_or m i Steady) ≡ false

pub Fills-refl : (l : List AssociationState) → Fills l l
Fills-refl l = record { sized = refl; remain = refl; full = λ i e. e; kept = λ i e. e }

pub Fills-trans : (l m n : List AssociationState) → Fills l m → Fills m n → Fills l n
Fills-trans l m n a b =
    record {
      sized = b.sized ∙ a.sized;
      remain = b.remain ∙ a.remain;
      full = λ i e. b.full i (a.full i e);
      kept = λ i e. b.kept i (a.kept i e);
    }

pub Fills-one : (l : List AssociationState) (j : ℕ)
    → Fills l (set l j (after_full (get_or l j Steady)))
Fills-one l j = record {
  sized = length-set l j (after_full (get_or l j Steady));
  remain = filled-remaining l j;
  full = filled-full l j;
  kept = filled-kept l j;
}

and_one-suc : (x : AssociationState) (n m : ℕ) → suc n ≡ m → suc (and_one x n) ≡ and_one x m
and_one-suc Steady n m e = ap suc e
and_one-suc Full n m e = ap suc e
and_one-suc Draining n m e = ap suc e
and_one-suc DrainingFull n m e = ap suc e
and_one-suc Closed n m e = e

-- one more is gone
pub goes-remaining : (l : List AssociationState) (i : ℕ) → get_or l i Steady ≡ Full
    → suc (remaining (set l i Closed)) ≡ remaining l
goes-remaining [] i e = absurd (cc)
goes-remaining (x ∷ l) zero e = ap (λ y. remaining (y ∷ l)) (sym e)
goes-remaining (x ∷ l) (suc i) e =
    and_one-suc x (remaining (set l i Closed)) (remaining l) (goes-remaining l i e)

pub goes-kept : (l : List AssociationState) (j i : ℕ) → is_draining (get_or l i Steady) ≡ false
    → is_draining (get_or (set l j Closed) i Steady) ≡ false
goes-kept [] j i e = e
goes-kept (x ∷ l) zero zero e = refl
goes-kept (x ∷ l) zero (suc i) e = e
goes-kept (x ∷ l) (suc j) zero e = e
goes-kept (x ∷ l) (suc j) (suc i) e = goes-kept l j i e

pub goes-left : (l : List AssociationState) (i : ℕ)
    → is_draining (get_or (set l i Closed) i Steady) ≡ false
goes-left [] i = refl
goes-left (x ∷ l) zero = refl
goes-left (x ∷ l) (suc i) = goes-left l i

and_one-le : (x : AssociationState) (n m : ℕ) → n ≤ m → and_one x n ≤ suc m
and_one-le Steady n m h = omega arith
and_one-le Full n m h = omega arith
and_one-le Draining n m h = omega arith
and_one-le DrainingFull n m h = omega arith
and_one-le Closed n m h = omega arith

pub remaining-le : (l : List AssociationState) → remaining l ≤ length l
remaining-le [] = omega arith
remaining-le (x ∷ l) = and_one-le x (remaining l) (length l) (remaining-le l)

-- no association is such that a reply to it did not fit
abbrev pub AreCalm : List AssociationState → Type 0
AreCalm l = (i : ℕ) → is_full (get_or l i Steady) ≡ false

pub goes-calm : (l : List AssociationState) (j : ℕ) → AreCalm l → AreCalm (set l j Closed)
goes-calm [] j h i = h i
goes-calm (x ∷ l) zero h zero = refl
goes-calm (x ∷ l) zero h (suc i) = h (suc i)
goes-calm (x ∷ l) (suc j) h zero = h zero
goes-calm (x ∷ l) (suc j) h (suc i) = goes-calm l j (λ k. h (suc k)) i

steady-at : (n i : ℕ) → get_or (replicate n Steady) i Steady ≡ Steady
steady-at zero i = refl
steady-at (suc n) zero = refl
steady-at (suc n) (suc i) = steady-at n i

pub all-steady : (i : ℕ) → get_or (replicate 8 Steady) i Steady ≡ Steady
all-steady i = steady-at 8 i

all-gone : (x : AssociationState) (n : ℕ) → and_one x n ≤ 0 → (is_full x ≡ false) × (n ≤ 0)
all-gone Steady n h = absurd (omega arith)
all-gone Full n h = absurd (omega arith)
all-gone Draining n h = absurd (omega arith)
all-gone DrainingFull n h = absurd (omega arith)
all-gone Closed n h = (refl, h)

pub none-remains : (l : List AssociationState) → remaining l ≤ 0 → AreCalm l
none-remains [] h i = refl
none-remains (x ∷ l) h zero = (all-gone x (remaining l) h).0
none-remains (x ∷ l) h (suc i) = none-remains l (all-gone x (remaining l) h).1 i

passes-first : (b : Bool) (n m : ℕ) → suc m ≤ cond (not b) (1 + n) 0 → (b ≡ false) × (m ≤ n)
passes-first true n m h = absurd (omega arith)
passes-first false n m h = (refl, omega arith)

none-passes : (l : List AssociationState) → length l ≤ position_or_len is_full l → AreCalm l
none-passes [] h i = refl
none-passes (x ∷ l) h zero = (passes-first (is_full x) (position_or_len is_full l) (length l) h).0
none-passes (x ∷ l) h (suc i) =
    none-passes l (passes-first (is_full x) (position_or_len is_full l) (length l) h).1 i

not-found : (b : Bool) (n : ℕ) → cond b (Some n) None ≡ None → b ≡ false
not-found true n e = absurd (cc)
not-found false n e = refl

pub none-full : (l : List AssociationState) → position is_full l ≡ None → AreCalm l
none-full l e =
    none-passes l (ltb-false (position_or_len is_full l) (length l)
    (not-found (nat_lt (position_or_len is_full l) (length l)) (position_or_len is_full l) e))

pub full-is : (x : AssociationState) → is_full x ≡ true → x ≡ Full
full-is Steady e = absurd (cc)
full-is Full e = refl
full-is Draining e = absurd (cc)
full-is DrainingFull e = absurd (cc)
full-is Closed e = absurd (cc)
