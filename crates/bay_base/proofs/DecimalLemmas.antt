-- Lemmas on decimal digits.
use Rattle.std.proofs.Common.{◌≡◌, if◌then◌else◌, subst, ℕ, ◌+◌, ◌-◌, ◌*◌, ◌<◌, ◌≤◌, ◌^◌, Bool, true, false, ◌&&◌, cond, eqb, nat_lt, List, Option, [], ◌∷◌, length, Some, None, refl, arith}
use Rattle.std.proofs.lemmas.Bool.Decides.{nat_tests}
use Rattle.std.proofs.lemmas.Str.{digit_value_digit}
use Rattle.std.specs.Char.{digit_value, is_ascii_digit}
use Rattle.std.specs.Str.{all_ascii_digits}
use Rattle.std.specs.Str.Parse.{digits_value_after}
use Rattle.bay_base.specs.Decimals.{with_digit, read_number}

-- the number that decimal digits write behind those of a number, below 2 ^ 64
abbrev pub number_from : ℕ → List ℕ → Option ℕ
number_from n ds =
    if all_ascii_digits ds && nat_lt (digits_value_after 10 n ds) (2 ^ 64)
    then Some (digits_value_after 10 n ds) else None

without-true : (o : Option ℕ) (u v w : Bool) → v ≡ true
    → cond (u && v && w) o None ≡ cond (u && w) o None
without-true o u false w e = absurd cc
without-true o false true w e = refl
without-true o true true false e = refl
without-true o true true true e = refl

pub read_number-some : (bs : List ℕ) → eqb (length bs) 0 ≡ false → read_number bs ≡ number_from 0 bs
read_number-some bs some =
    without-true _ (all_ascii_digits bs) (nat_lt 0 (length bs))
    (nat_lt (digits_value_after 10 0 bs) (2 ^ 64)) (grind (arith, nat_tests))

pub digit_value-digit : (b : ℕ) → is_ascii_digit b ≡ true → digit_value b ≡ b - 48
digit_value-digit b is = omega (arith, digit_value_digit b (grind (arith, nat_tests)))

-- a number with its digits behind it
after-ge : (n : ℕ) (ds : List ℕ) → n ≤ digits_value_after 10 n ds
after-ge n [] = omega arith
after-ge n (c ∷ cs) = omega (arith, after-ge (n * 10 + digit_value c) cs)

pub number_from-end : (n : ℕ) → n < 2 ^ 64 → number_from n [] ≡ Some n
number_from-end n lt = let is : nat_lt n (2 ^ 64) ≡ true = grind (arith, nat_tests) in rw is refl

-- a digit moves to the number
abbrev pub AddsDigit : ℕ → ℕ → ℕ → Type 0
AddsDigit n b m = (is_ascii_digit b ≡ true) × (m ≡ n * 10 + (b - 48)) × (m < 2 ^ 64)

pub with_digit-some : (n b m : ℕ) → with_digit n b ≡ Some m → AddsDigit n b m
with_digit-some n b m e =
    by-tests (is_ascii_digit b) (nat_lt (n * 10 + (b - 48)) (2 ^ 64)) refl refl
  where
    by-tests : (u v : Bool) → is_ascii_digit b ≡ u → nat_lt (n * 10 + (b - 48)) (2 ^ 64) ≡ v
        → AddsDigit n b m
    by-tests false v d f = let none : None ≡ Some m = rw d at e in absurd cc
    by-tests true false d f = let none : None ≡ Some m = rw (d, f) at e in absurd cc
    by-tests true true d f =
        let is : Some (n * 10 + (b - 48)) ≡ Some m = rw (d, f) at e in
        let same : n * 10 + (b - 48) ≡ m = cc in
        (d, cc, subst (λ k. k < 2 ^ 64) same (grind (arith, nat_tests)))

pub number_from-step : (n b : ℕ) (bs : List ℕ) (m : ℕ) → with_digit n b ≡ Some m
    → number_from n (b ∷ bs) ≡ number_from m bs
number_from-step n b bs m e = let is =
    with_digit-some n b m e in rw (is.0, digit_value-digit b is.0, is.1) refl

pub number_from-none : (n b : ℕ) (bs : List ℕ) → with_digit n b ≡ None
    → number_from n (b ∷ bs) ≡ None
number_from-none n b bs e =
    by-tests (is_ascii_digit b) (nat_lt (n * 10 + (b - 48)) (2 ^ 64)) refl refl
  where
    by-tests : (u v : Bool) → is_ascii_digit b ≡ u → nat_lt (n * 10 + (b - 48)) (2 ^ 64) ≡ v
        → number_from n (b ∷ bs) ≡ None
    by-tests false v d f = rw d refl
    by-tests true false d f =
        let over : nat_lt (digits_value_after 10 (n * 10 + (b - 48)) bs) (2 ^ 64) ≡ false = let ge =
        after-ge (n * 10 + (b - 48)) bs in grind (arith, nat_tests) in
        rw (d, digit_value-digit b d) (no-more (all_ascii_digits bs) over)
      where
        no-more : {v : Bool} (u : Bool) → v ≡ false
            → cond (u && v) (Some (digits_value_after 10 (n * 10 + (b - 48)) bs)) None ≡ None
        no-more true e = rw e refl
        no-more false e = refl
    by-tests true true d f = let none : Some (n * 10 + (b - 48)) ≡ None =
        rw (d, f) at e in absurd cc
