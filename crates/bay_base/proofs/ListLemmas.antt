-- A list from one place on.
use Rattle.std.proofs.Common.{◌≡◌, ℕ, ◌+◌, ◌<◌, ◌≤◌, Bool, true, false, cond, Option, Some, List, [], ◌∷◌, length, map, drop, find, slice_index, option_map, take, ◌-◌, refl, arith}
use Rattle.std.proofs.lemmas.Grind.{common_steps}
use Rattle.std.proofs.lemmas.List.{take_all}
use Rattle.std.proofs.lemmas.Str.{IsUtf8-from_is_utf8}
use Rattle.std.specs.Str.{IsUtf8, is_utf8}

pub front_of : (bs : List ℕ) (i : ℕ) → i < length bs
    → drop i bs ≡ slice_index bs i ∷ drop (i + 1) bs
front_of bs i h = grind (arith, common_steps)

pub none-left : (bs : List ℕ) (i : ℕ) → length bs ≤ i → drop i bs ≡ []
none-left bs i h = grind (arith, common_steps)

picked : {X Y : Type 0} (f : X → Y) (b : Bool) (x : X) (r : Option Y) (s : Option X)
    → r ≡ option_map f s
    → cond b (Some (f x)) r ≡ option_map f (cond b (Some x) s)
picked f true x r s e = refl
picked f false x r s e = e

-- the first of what a list is mapped to is what its first is mapped to
pub find-map : {X Y : Type 0} (p : Y → Bool) (f : X → Y) (xs : List X)
    → find p (map f xs) ≡ option_map f (find (λ x. p (f x)) xs)
find-map p f [] = refl
find-map p f (x ∷ xs) = picked f (p (f x)) x _ _ (find-map p f xs)

-- what is left of a list is all of it
pub take-rest : (xs : List ℕ) (n : ℕ) → take (length xs - n) (drop n xs) ≡ drop n xs
take-rest xs n = take_all (length xs - n) (drop n xs) (grind (arith, common_steps))

-- octets that are no text
pub is-utf8-false : (bs : List ℕ) → ¬ (IsUtf8 bs) → is_utf8 bs ≡ false
is-utf8-false bs bad = by_test (is_utf8 bs) refl
  where
    by_test : (v : Bool) → is_utf8 bs ≡ v → v ≡ false
    by_test true e = absurd (bad (IsUtf8-from_is_utf8 bs e))
    by_test false e = refl
