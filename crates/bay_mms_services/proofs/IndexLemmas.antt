-- The number of a node is that before the first `$` of a name.
use Rattle.std.proofs.Common.{◌≡◌, ℕ, ◌+◌, ◌-◌, ◌≤◌, ◌<◌, ◌^◌, Bool, true, false, nat_lt, List, [], ◌∷◌, ◌++◌, Option, Some, None, refl, sym, ap, ◌∙◌, arith}
use Rattle.std.proofs.lemmas.Bool.Decides.{nat_tests}
use Rattle.std.proofs.lemmas.Fmt.{decimal_is_IsNumeral, digits_decimal}
use Rattle.std.proofs.lemmas.Str.Parse.{numerals_by_value, tells_all_ascii_digits}
use Rattle.std.specs.Fmt.{decimal}
use Rattle.std.specs.Option.{SomeIff}
use Rattle.std.specs.Str.{all_ascii_digits}
use Rattle.std.specs.Str.Parse.{digits_value}
use Rattle.bay_base.specs.Decimals.{with_digit}
use Rattle.bay_base.proofs.DecimalLemmas.{number_from, number_from-step, number_from-none}

-- the number so far, if no digit follows, and otherwise what f makes of the longer number
abbrev pub followed : ℕ → (ℕ → Option ℕ) → Option ℕ → Option ℕ
followed n f None = Some n
followed n f (Some m) = f m

-- the number that digits write behind those of a number, up to the first octet that is none
abbrev pub leading : ℕ → List ℕ → Option ℕ
leading n [] = None
leading n (c ∷ cs) = followed n (λ m. leading m cs) (with_digit n c)

-- digits before a `$` write their number
before-dollar : (n m : ℕ) (ds path : List ℕ) → number_from n ds ≡ Some m
    → leading n (ds ++ 36 ∷ path) ≡ Some m
before-dollar n m [] path e = by-size (nat_lt n (2 ^ 64)) refl
  where
    by-size : (v : Bool) → nat_lt n (2 ^ 64) ≡ v → Some n ≡ Some m
    by-size true is = let same : Some n ≡ Some m = rw is at e in same
    by-size false is = let none : None ≡ Some m = rw is at e in absurd cc
before-dollar n m (d ∷ ds) path e =
    by-digit (λ x. before-dollar x m ds path) (with_digit n d) refl
  where
    by-digit : ((x : ℕ) → number_from x ds ≡ Some m → leading x (ds ++ 36 ∷ path) ≡ Some m)
        → (o : Option ℕ) → with_digit n d ≡ o
        → followed n (λ x. leading x (ds ++ 36 ∷ path)) o ≡ Some m
    by-digit more None is =
        let none : None ≡ Some m = sym (number_from-none n d ds is) ∙ e in absurd cc
    by-digit more (Some x) is = more x (sym (number_from-step n d ds x is) ∙ e)

number-of : (n : ℕ) → n < 2 ^ 64 → number_from 0 (decimal n) ≡ Some n
number-of n less =
    let are : all_ascii_digits (decimal n) ≡ true =
    digits_decimal (numerals_by_value _ tells_all_ascii_digits) n less in
    let value : digits_value 10 (decimal n) ≡ n = (decimal_is_IsNumeral n less).1 in
    let small : nat_lt n (2 ^ 64) ≡ true = grind (arith, nat_tests) in
    rw (are, value, small) refl

-- a number before a `$` is read
pub number-leads : (n : ℕ) (path : List ℕ) → n < 2 ^ 64
    → leading 0 (decimal n ++ 36 ∷ path) ≡ Some n
number-leads n path less = before-dollar 0 n (decimal n) path (number-of n less)

-- the index before a number
pub number-found : (r : Option ℕ) (n k : ℕ) → Some n ≡ Some (k + 1) → SomeIff r (1 ≤ n) (n - 1)
    → r ≡ Some k
number-found None n k e none =
    let same : n ≡ k + 1 = cc in absurd (none (omega (arith, same)))
number-found (Some x) n k e some =
    let same : n ≡ k + 1 = cc in
    ap (λ (y : ℕ). Some y) (omega (arith, same, some.1))
