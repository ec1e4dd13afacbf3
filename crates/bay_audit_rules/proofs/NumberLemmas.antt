-- Lemmas on numbers and times.
use Rattle.std.proofs.Common.{◌≡◌, ℕ, ◌+◌, ◌*◌, ◌^◌, ◌<◌, ◌≤◌, min, Bool, true, false, ◌&&◌, nat_lt, nat_le, if◌then◌else◌, List, [], ◌∷◌, length, Option, Some, None, option_map, refl, sym, ap, ◌∙◌, arith}
use Rattle.std.proofs.lemmas.Bool.Decides.{nat_tests}
use Rattle.std.proofs.lemmas.Nat.{mul-le}
use Rattle.std.specs.Char.{is_ascii_digit}
use Rattle.std.specs.List.{list_all}
use Rattle.std.specs.Str.{all_ascii_digits}
use Rattle.std.specs.Str.Parse.{digits_value}
use Rattle.bay_base.specs.Options.{◌>>=◌}
use Rattle.bay_base.specs.Decimals.{digits_in, negative_of, positive_of, read_number}
use Rattle.bay_audit_rules.specs.Numbers.{time_of, unit_of, timer_time}

-- all of them are digits
pub digits-all : (bs : List ℕ) → list_all is_ascii_digit bs ≡ all_ascii_digits bs
digits-all [] = refl
digits-all (b ∷ bs) = ap (λ rest. is_ascii_digit b && rest) (digits-all bs)

-- digits that write no number below 2 ^ 64
pub great-digits : (word : List ℕ) → read_number word ≡ None → all_ascii_digits word ≡ true
    → nat_lt 0 (length word) ≡ true
    → option_map (min (2 ^ 32)) (digits_in word) ≡ Some (2 ^ 32)
great-digits word none digits some = by-test (nat_lt (digits_value 10 word) (2 ^ 64)) refl
  where
    by-test : (v : Bool) → nat_lt (digits_value 10 word) (2 ^ 64) ≡ v
        → option_map (min (2 ^ 32)) (digits_in word) ≡ Some (2 ^ 32)
    by-test true e = let no : Some (digits_value 10 word) ≡ None = rw (digits, some, e) at none in
        absurd cc
    by-test false e = let great : 2 ^ 64 ≤ digits_value 10 word = grind (arith, nat_tests) in
        rw (digits, some) (ap Some (omega (arith, great)))

-- digits that do
pub few-digits : (word : List ℕ) (n : ℕ) → read_number word ≡ Some n → digits_in word ≡ Some n
few-digits word n is =
    by-tests (all_ascii_digits word) (nat_lt 0 (length word))
    (nat_lt (digits_value 10 word) (2 ^ 64)) refl refl refl
  where
    by-tests : (u v w : Bool) → all_ascii_digits word ≡ u → nat_lt 0 (length word) ≡ v
        → nat_lt (digits_value 10 word) (2 ^ 64) ≡ w → digits_in word ≡ Some n
    by-tests false v w d e f = let no : None ≡ Some n = rw d at is in absurd cc
    by-tests true false w d e f = let no : None ≡ Some n = rw (d, e) at is in absurd cc
    by-tests true true false d e f = let no : None ≡ Some n = rw (d, e, f) at is in absurd cc
    by-tests true true true d e f =
        let same : Some (digits_value 10 word) ≡ Some n = rw (d, e, f) at is in rw (d, e) same

-- a great number of units
units-min : (n u t : ℕ) → 1 ≤ u
    → min (2 ^ 32) (n * u + t) ≡ min (2 ^ 32) (min (2 ^ 32) (min (2 ^ 32) n * u) + t)
units-min n u t some = by-order (nat_lt n (2 ^ 32)) refl
  where
    by-order : (v : Bool) → nat_lt n (2 ^ 32) ≡ v
        → min (2 ^ 32) (n * u + t) ≡ min (2 ^ 32) (min (2 ^ 32) (min (2 ^ 32) n * u) + t)
    by-order true e =
        let l : n < 2 ^ 32 = grind (arith, nat_tests) in
        let same : min (2 ^ 32) n ≡ n = omega (arith, l) in rw same (omega arith)
    by-order false e =
        let l : 2 ^ 32 ≤ n = grind (arith, nat_tests) in
        let same : min (2 ^ 32) n ≡ 2 ^ 32 = omega (arith, l) in
        let many : n * 1 ≤ n * u = mul-le n 1 n u (omega arith) some in
        let most : 2 ^ 32 * 1 ≤ 2 ^ 32 * u = mul-le (2 ^ 32) 1 (2 ^ 32) u (omega arith) some in
        rw same (omega (arith, l, many, most))

-- a part, and what follows it
pub part-more : (total p : ℕ) (x y : Option ℕ)
    → option_map (min (2 ^ 32)) x ≡ option_map (λ t. min (2 ^ 32) (p + t)) y
    → option_map (λ t. min (2 ^ 32) (total + t)) x
    ≡ option_map (λ t. min (2 ^ 32) (min (2 ^ 32) (total + p) + t)) y
part-more total p None None e = refl
part-more total p (Some t) None e = absurd cc
part-more total p None (Some s) e = absurd cc
part-more total p (Some t) (Some s) e =
    let same : min (2 ^ 32) t ≡ min (2 ^ 32) (p + s) = cc in
    ap Some (omega (arith, same))

-- what can't tell great numbers apart
pub map-min : {X : Type 0} (f : ℕ → X) → ((n : ℕ) → f (min (2 ^ 32) n) ≡ f n) → (x y : Option ℕ)
    → y ≡ option_map (min (2 ^ 32)) x → option_map f y ≡ option_map f x
map-min f same None y e = rw e refl
map-min f same (Some n) y e = rw e (ap Some (same n))

pub positive-min : (n : ℕ) → positive_of (min (2 ^ 32) n) ≡ positive_of n
positive-min n = by-order (nat_lt n (2 ^ 31)) refl
  where
    by-order : (v : Bool) → nat_lt n (2 ^ 31) ≡ v → positive_of (min (2 ^ 32) n) ≡ positive_of n
    by-order true e =
        let l : n < 2 ^ 31 = grind (arith, nat_tests) in
        let same : min (2 ^ 32) n ≡ n = omega (arith, l) in rw same refl
    by-order false e =
        let l : 2 ^ 31 ≤ n = grind (arith, nat_tests) in
        let more : nat_lt (min (2 ^ 32) n) (2 ^ 31) ≡ false = grind (arith, nat_tests, l) in
        rw (e, more) refl

pub negative-min : (n : ℕ) → negative_of (min (2 ^ 32) n) ≡ negative_of n
negative-min n = by-order (nat_le n (2 ^ 31)) refl
  where
    by-order : (v : Bool) → nat_le n (2 ^ 31) ≡ v → negative_of (min (2 ^ 32) n) ≡ negative_of n
    by-order true e =
        let l : n ≤ 2 ^ 31 = grind (arith, nat_tests) in
        let same : min (2 ^ 32) n ≡ n = omega (arith, l) in rw same refl
    by-order false e =
        let l : 2 ^ 31 < n = grind (arith, nat_tests) in
        let more : nat_le (min (2 ^ 32) n) (2 ^ 31) ≡ false = grind (arith, nat_tests, l) in
        rw (e, more) refl

pub timer-min : (n : ℕ) → timer_time (min (2 ^ 32) n) ≡ timer_time n
timer-min n = by-order (nat_lt n (2 ^ 31)) refl
  where
    none : (u : Bool) (x : Option ℕ) → (if u && false then x else None) ≡ None
    none true x = refl
    none false x = refl

    by-order : (v : Bool) → nat_lt n (2 ^ 31) ≡ v → timer_time (min (2 ^ 32) n) ≡ timer_time n
    by-order true e =
        let l : n < 2 ^ 31 = grind (arith, nat_tests) in
        let same : min (2 ^ 32) n ≡ n = omega (arith, l) in rw same refl
    by-order false e =
        let l : 2 ^ 31 ≤ n = grind (arith, nat_tests) in
        let more : nat_lt (min (2 ^ 32) n) (2 ^ 31) ≡ false = grind (arith, nat_tests, l) in
        rw (e, more) (none _ _ ∙ sym (none _ _))

-- a unit is of 1 millisecond to one day
pub unit-some : (w : List ℕ) (u : ℕ) → unit_of w ≡ Some u → (1 ≤ u) × (u ≤ 86400000)
unit-some w u e = by-tests _ _ _ _ _ e
  where
    at : (n : ℕ) → 1 ≤ n → n ≤ 86400000 → Some n ≡ Some u → (1 ≤ u) × (u ≤ 86400000)
    at n some few is = let same : n ≡ u = cc in (
      omega (arith, same, some),
      omega (
        arith,
        same,
        few,
      ),
    )

    by-tests : (a b c d f : Bool)
        → (if a then Some 1 else if b then Some 1000 else if c then Some 60000
        else if d then Some 3600000 else if f then Some 86400000 else None) ≡ Some u
        → (1 ≤ u) × (u ≤ 86400000)
    by-tests true b c d f is = at 1 (omega arith) (omega arith) is
    by-tests false true c d f is = at 1000 (omega arith) (omega arith) is
    by-tests false false true d f is = at 60000 (omega arith) (omega arith) is
    by-tests false false false true f is = at 3600000 (omega arith) (omega arith) is
    by-tests false false false false true is = at 86400000 (omega arith) (omega arith) is
    by-tests false false false false false is = absurd cc

-- a number and its unit, and what follows them
pub part-read : (x y : Option ℕ) (d u e : ℕ) → Some d ≡ option_map (min (2 ^ 32)) x → 1 ≤ u
    → e ≡ min (2 ^ 32) (d * u)
    → option_map (min (2 ^ 32)) (x >>= λ n. option_map (λ t. n * u + t) y)
    ≡ option_map (λ t. min (2 ^ 32) (e + t)) y
part-read None y d u e is some e-is = absurd cc
part-read (Some n) None d u e is some e-is = refl
part-read (Some n) (Some t) d u e is some e-is =
    let same : d ≡ min (2 ^ 32) n = cc in rw (e-is, same) (ap Some (units-min n u t some))

-- nothing added
pub time-init : (x : Option ℕ)
    → option_map (min (2 ^ 32)) x ≡ option_map (λ t. min (2 ^ 32) (0 + t)) x
time-init None = refl
time-init (Some t) = ap Some (omega arith)

-- the same, of pieces
pub part-cut : (n u : List ℕ) (ps qs rs : List (List ℕ)) (d v e : ℕ) → ps ≡ n ∷ qs → qs ≡ u ∷ rs
    → Some d ≡ option_map (min (2 ^ 32)) (digits_in n) → Some v ≡ unit_of u
    → e ≡ min (2 ^ 32) (d * v)
    → option_map (min (2 ^ 32)) (time_of ps)
    ≡ option_map (λ t. min (2 ^ 32) (e + t)) (time_of rs)
part-cut n u ps qs rs d v e p q digits unit is =
    rw (p, q, ← unit) (part-read (digits_in n) (time_of rs) d v e digits (unit-some u v (sym
    unit)).0 is)
