-- Lemmas on the pieces of a list of octets.
use Rattle.std.proofs.Common.{◌≡◌, ℕ, zero, suc, ◌-◌, ◌<◌, ◌≤◌, Bool, true, false, List, [], ◌∷◌, length, get_or, take, drop, refl, ap, arith}
use Rattle.std.proofs.lemmas.Grind.{common_steps}
use Rattle.std.proofs.lemmas.List.{take_all}
use Rattle.bay_audit_rules.specs.Pieces.{joins, joins_piece, prepend, pieces}
use Rattle.bay_audit_rules.specs.declared.pieces.Cut.{Cut}

-- each of the first so many octets belongs to the one behind it
abbrev pub AllJoin : Cut → ℕ → List ℕ → Type 0
AllJoin cut n bs =
    (i j : ℕ) → j ≡ suc i → j < n → joins cut (get_or bs i 0) (get_or bs j 0) ≡ true

-- an octet joins a list of pieces as it joins their first octet
joins-first : (cut : Cut) (a b : ℕ) (ps : List (List ℕ)) → joins cut a b ≡ false
    → prepend cut a (prepend cut b ps) ≡ (a ∷ []) ∷ prepend cut b ps
joins-first cut a b [] apart = rw apart refl
joins-first cut a b (p ∷ ps) apart = by-test (joins_piece cut b p) refl
  where
    by-test : (v : Bool) → joins_piece cut b p ≡ v
        → prepend cut a (prepend cut b (p ∷ ps)) ≡ (a ∷ []) ∷ prepend cut b (p ∷ ps)
    by-test true e = rw (e, apart) refl
    by-test false e = rw (e, apart) refl

-- a list is cut behind the first octet that the one behind it does not belong to
cut-behind : (cut : Cut) (b : ℕ) (bs : List ℕ) (n : ℕ) → n ≤ length bs
    → AllJoin cut (suc n) (b ∷ bs)
    → (n < length bs → joins cut (get_or (b ∷ bs) n 0) (get_or bs n 0) ≡ false)
    → pieces cut (b ∷ bs) ≡ (b ∷ take n bs) ∷ pieces cut (drop n bs)
cut-behind cut b [] zero within all apart = refl
cut-behind cut b [] (suc n) within all apart = absurd (omega (arith, within))
cut-behind cut b (c ∷ bs) zero within all apart =
    joins-first cut b c (pieces cut bs) (apart (omega arith))
cut-behind cut b (c ∷ bs) (suc n) within all apart =
    let rest = cut-behind cut c bs n (omega (arith, within))
    (λ i j e l. all (suc i) (suc j) (ap suc e) (omega (arith, l)))
    (λ l. apart (omega (arith, l))) in
    let here : joins cut b c ≡ true = all 0 1 refl (omega arith) in
    rw (rest, here) refl

-- what is left of a list is all of it
take-rest : (xs : List ℕ) (n : ℕ) → take (length xs - n) (drop n xs) ≡ drop n xs
take-rest xs n = take_all (length xs - n) (drop n xs) (grind (arith, common_steps))

-- the same, by the place of the cut
pub cut-at : (cut : Cut) (bs : List ℕ) (n m : ℕ) → n ≡ suc m → n ≤ length bs → AllJoin cut n bs
    → (n < length bs → joins cut (get_or bs m 0) (get_or bs n 0) ≡ false)
    → pieces cut bs ≡ take n bs ∷ pieces cut (take (length bs - n) (drop n bs))
cut-at cut [] n m e within all apart = absurd (omega (arith, e, within))
cut-at cut (b ∷ bs) n m e within all apart =
    rw (e, take-rest (b ∷ bs) (suc m))
    (cut-behind cut b bs m (omega (arith, e, within)) (rw e at all)
    (λ l. rw e at (apart (omega (arith, e, l)))))
