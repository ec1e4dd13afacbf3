-- The comparison of names, octet by octet.
use Rattle.std.proofs.Common.{◌≡◌, ◌≢◌, ℕ, ◌+◌, ◌<◌, ◌≤◌, true, false, List, [], ◌∷◌, length, drop, slice_index, eqb, refl, ap, ◌∙◌, arith}
use Rattle.std.specs.Char.{to_ascii_uppercase}
use Rattle.std.specs.Str.{bytes_eq}
use Rattle.std.proofs.Math.Bool.{and-false}
use Rattle.std.proofs.lemmas.Bool.{eq-eqb, ne_eqb}
use Rattle.std.proofs.lemmas.Str.Ascii.{uppercase-uppercase}
use Rattle.bay_base.specs.Names.{upper, same_name}
use Rattle.bay_base.proofs.ListLemmas.{front_of, none-left}

pub other_lengths : (a b : List ℕ) → length a ≢ length b → same_name a b ≡ false
unfolding same_name
other_lengths [] [] h = absurd (h refl)
other_lengths [] (y ∷ b) h = refl
other_lengths (x ∷ a) [] h = refl
other_lengths (x ∷ a) (y ∷ b) h =
    let rest : bytes_eq (upper a) (upper b) ≡ false =
    unfold same_name in other_lengths a b (λ e. h (omega (arith, e))) in
    rw rest (and-false (eqb (to_ascii_uppercase x) (to_ascii_uppercase y)))

same-front : (x y : ℕ) (a b : List ℕ) → to_ascii_uppercase x ≡ to_ascii_uppercase y
    → same_name (x ∷ a) (y ∷ b) ≡ same_name a b
unfolding same_name
same-front x y a b e = rw (eq-eqb _ _ e) refl

other-front : (x y : ℕ) (a b : List ℕ) → to_ascii_uppercase x ≢ to_ascii_uppercase y
    → same_name (x ∷ a) (y ∷ b) ≡ false
unfolding same_name
other-front x y a b e = rw (ne_eqb _ _ e) refl

pub same_from : (a b : List ℕ) (i : ℕ) → i < length a → i < length b
    → to_ascii_uppercase (slice_index a i) ≡ to_ascii_uppercase (slice_index b i)
    → same_name (drop i a) (drop i b) ≡ same_name (drop (i + 1) a) (drop (i + 1) b)
same_from a b i h k e = rw (front_of a i h, front_of b i k) (same-front _ _ _ _ e)

pub other_from : (a b : List ℕ) (i : ℕ) → i < length a → i < length b
    → to_ascii_uppercase (slice_index a i) ≢ to_ascii_uppercase (slice_index b i)
    → same_name (drop i a) (drop i b) ≡ false
other_from a b i h k e = rw (front_of a i h, front_of b i k) (other-front _ _ _ _ e)

pub same_at_end : (a b : List ℕ) (i : ℕ) → length a ≤ i → length b ≤ i
    → same_name (drop i a) (drop i b) ≡ true
unfolding same_name
same_at_end a b i h k = rw (none-left a i h, none-left b i k) refl

pub upper-upper : (name : List ℕ) → upper (upper name) ≡ upper name
upper-upper [] = refl
upper-upper (c ∷ name) =
    ap (λ d. d ∷ upper (upper name)) (uppercase-uppercase c)
    ∙ ap (λ (ds : List ℕ). to_ascii_uppercase c ∷ ds) (upper-upper name)

-- a name in upper case is the same name
pub same-upper : (a b : List ℕ) → same_name (upper a) b ≡ same_name a b
unfolding same_name
same-upper a b = ap (λ (u : List ℕ). bytes_eq u (upper b)) (upper-upper a)
