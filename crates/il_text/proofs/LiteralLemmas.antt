-- Numbers, digit by digit.
use Rattle.std.proofs.Common.{◌≡◌, ◌≢◌, ℕ, ◌+◌, ◌-◌, ◌*◌, ◌^◌, ◌<◌, ◌≤◌, not, Bool, true, false, cond, List, [], ◌∷◌, Option, Some, None, length, drop, slice_index, filter, min, eqb, ltb, leb, MatchOption, option_map, Bor, refl, sym, arith, ap, ◌∙◌, ⊎_elim}
use Rattle.std.specs.Char.{digit_value}
use Rattle.std.specs.Str.Parse.{digits_value, digits_value_after}
use Rattle.std.proofs.lemmas.Bool.{lt-ltb, le-ltb, ne_eqb, cases_lt}
use Rattle.std.proofs.lemmas.Bool.Decides.{nat_tests}
use Rattle.std.specs.List.{position_or_len, before_first, after_first}
use Rattle.std.proofs.Math.Bool.{and-false}
use Rattle.std.proofs.Math.Nat.{mul-le-mul_left, mul-le-mul_right}
use Rattle.il_text.specs.Literals.{is_underscore, is_hash, is_integer, number, split_at_hash, decimal, based_integer, integer, number_value, plain_literal, Signed}
use Rattle.il_text.specs.Runs.{capped_number, capped_signed}
use Rattle.bay_base.proofs.ListLemmas.{front_of, none-left}

abbrev pub kept : List ℕ → List ℕ
kept = filter (λ x. not (is_underscore x))

abbrev pub value_if : Bool → ℕ → Option ℕ
value_if b n = cond b (Some (min n (2 ^ 64 - 1))) None

-- the number of what is left, where `value` was written before it
unfoldable pub number_from : ℕ → Bool → ℕ → List ℕ → Option ℕ
number_from radix wanted value ds =
    value_if (is_integer radix wanted ds) (digits_value_after radix value (kept ds))

pub from-start : (radix : ℕ) (ds : List ℕ)
    → capped_number (number radix ds) ≡ number_from radix true 0 (drop 0 ds)
unfolding number number_from
from-start radix ds =
    elim (is_integer radix true ds) as
    (λ b. capped_number (cond b (Some (digits_value radix (kept ds))) None)
    ≡ value_if b (digits_value_after radix 0 (kept ds))) [ true ↦ refl | false ↦ refl ]

at-underscore : (radix value x : ℕ) (xs : List ℕ) → x ≡ 95
    → number_from radix false value (x ∷ xs) ≡ number_from radix true value xs
unfolding number_from is_integer
at-underscore radix value x xs e = rw e refl

pub from-underscore : (radix value : ℕ) (ds : List ℕ) (i : ℕ) → i < length ds
    → slice_index ds i ≡ 95 → number_from radix false value (drop i ds)
    ≡ number_from radix true value (drop (i + 1) ds)
from-underscore radix value ds i h e = rw (front_of ds i h) (at-underscore radix value _ _ e)

pub from-end : (radix value : ℕ) (ds : List ℕ) (i : ℕ) → length ds ≤ i → value ≤ 2 ^ 64 - 1
    → number_from radix false value (drop i ds) ≡ Some value
unfolding number_from is_integer
from-end radix value ds i h v = let m : min value (2 ^ 64 - 1) ≡ value =
    omega arith in rw (none-left ds i h) (ap Some m)

pub from-end-wanted : (radix value : ℕ) (ds : List ℕ) (i : ℕ) → length ds ≤ i
    → number_from radix true value (drop i ds) ≡ None
unfolding number_from is_integer
from-end-wanted radix value ds i h = rw (none-left ds i h) refl

-- a cap at one digit leaves the capped number as it is
min-step : (radix a d : ℕ) → 0 < radix
    → min (a * radix + d) (2 ^ 64 - 1) ≡ min ((min a (2 ^ 64 - 1)) * radix + d) (2 ^ 64 - 1)
min-step radix a d h = ⊎_elim
    (λ (k : 2 ^ 64 - 1 < a).
    let e : min a (2 ^ 64 - 1) ≡ 2 ^ 64 - 1 = omega arith in
    let some : 1 ≤ radix = omega arith in
    let past : 2 ^ 64 - 1 ≤ a = omega arith in
    let p : (2 ^ 64 - 1) * 1 ≤ (2 ^ 64 - 1) * radix = mul-le-mul_left (2 ^ 64 - 1) some in
    let q : (2 ^ 64 - 1) * radix ≤ a * radix = mul-le-mul_right radix past in
    rw e (omega arith))
    (λ (k : a ≤ 2 ^ 64 - 1). let e : min a (2 ^ 64 - 1) ≡ a = omega arith in rw e refl)
    (cases_lt (2 ^ 64 - 1) a)

capped-after : (radix a : ℕ) (ds : List ℕ) → 0 < radix
    → min (digits_value_after radix a ds) (2 ^ 64 - 1)
    ≡ min (digits_value_after radix (min a (2 ^ 64 - 1)) ds) (2 ^ 64 - 1)
capped-after radix a [] h = omega arith
capped-after radix a (x ∷ xs) h =
    capped-after radix (a * radix + digit_value x) xs h
    ∙ ap (λ n. min (digits_value_after radix n xs) (2 ^ 64 - 1))
    (min-step radix a (digit_value x) h)
    ∙ sym (capped-after radix ((min a (2 ^ 64 - 1)) * radix + digit_value x) xs h)

at-digit : (radix value x : ℕ) (wanted : Bool) (xs : List ℕ) → 2 ≤ radix → radix ≤ 16
    → digit_value x < radix
    → number_from radix wanted value (x ∷ xs)
    ≡ number_from radix false
    (min (min (value * radix) (2 ^ 64 - 1) + digit_value x) (2 ^ 64 - 1)) xs
unfolding number_from is_integer
at-digit radix value x wanted xs low high d =
    let plain : x ≢ 95 =
    λ e. absurd (let z : digit_value 95 < radix = rw e at d in omega (arith, z)) in
    let u : eqb x 95 ≡ false = ne_eqb x 95 plain in
    let t : ltb (digit_value x) radix ≡ true = lt-ltb _ _ d in
    let inner : min (min (value * radix) (2 ^ 64 - 1) + digit_value x) (2 ^ 64 - 1)
    ≡ min (value * radix + digit_value x) (2 ^ 64 - 1) = omega arith in
    rw (inner, u, and-false (not wanted), t)
    (ap (λ (n : ℕ). cond (is_integer radix false xs) (Some n) None)
    (capped-after radix (value * radix + digit_value x) (kept xs) (omega arith)))

pub from-digit : (radix value : ℕ) (wanted : Bool) (ds : List ℕ) (i : ℕ) → 2 ≤ radix → radix ≤ 16
    → i < length ds → digit_value (slice_index ds i) < radix
    → number_from radix wanted value (drop i ds)
    ≡ number_from radix false
    (min (min (value * radix) (2 ^ 64 - 1) + digit_value (slice_index ds i)) (2 ^ 64 - 1))
    (drop (i + 1) ds)
from-digit radix value wanted ds i low high h d =
    rw (front_of ds i h) (at-digit radix value _ wanted _ low high d)

at-other : (radix value x : ℕ) (wanted : Bool) (xs : List ℕ) → (digit_value x < radix → ⊥)
    → (wanted ≡ false → x ≢ 95)
    → number_from radix wanted value (x ∷ xs) ≡ None
unfolding number_from is_integer
at-other radix value x true xs d u =
    let t : ltb (digit_value x) radix ≡ false = le-ltb _ _ (omega (arith, d)) in rw t refl
at-other radix value x false xs d u =
    let t : ltb (digit_value x) radix ≡ false = le-ltb _ _ (omega (arith, d)) in
    rw (ne_eqb x 95 (u refl), t) refl

pub from-other : (radix value : ℕ) (wanted : Bool) (ds : List ℕ) (i : ℕ) → i < length ds
    → (digit_value (slice_index ds i) < radix → ⊥) → (wanted ≡ false → slice_index ds i ≢ 95)
    → number_from radix wanted value (drop i ds) ≡ None
from-other radix value wanted ds i h d u =
    rw (front_of ds i h) (at-other radix value _ wanted _ d u)

pub ruleset number_rules =
    (from-start, from-underscore, from-end, from-end-wanted, from-digit, from-other)

signed-plus : (m : ℕ) → number_value (Some (false, min m (2 ^ 64 - 1)))
    ≡ number_value (Some (false, m))
signed-plus m = ⊎_elim
    (λ (k : 2 ^ 64 - 1 < m).
    let e : min m (2 ^ 64 - 1) ≡ 2 ^ 64 - 1 = omega arith in
    let f : leb m 9223372036854775807 ≡ false = grind (arith, nat_tests) in
    rw (e, f) refl)
    (λ (k : m ≤ 2 ^ 64 - 1). let e : min m (2 ^ 64 - 1) ≡ m = omega arith in rw e refl)
    (cases_lt (2 ^ 64 - 1) m)

signed-minus : (m : ℕ) → number_value (Some (true, min m (2 ^ 64 - 1)))
    ≡ number_value (Some (true, m))
signed-minus m = ⊎_elim
    (λ (k : 2 ^ 64 - 1 < m).
    let e : min m (2 ^ 64 - 1) ≡ 2 ^ 64 - 1 = omega arith in
    let f : leb m 9223372036854775808 ≡ false = grind (arith, nat_tests) in
    let g : eqb m 0 ≡ false = ne_eqb m 0 (λ z. absurd (omega (arith, z))) in
    rw (e, f, g) refl)
    (λ (k : m ≤ 2 ^ 64 - 1). let e : min m (2 ^ 64 - 1) ≡ m = omega arith in rw e refl)
    (cases_lt (2 ^ 64 - 1) m)

pub signed_capped : (z : Option Signed) → number_value (capped_signed z) ≡ number_value z
signed_capped None = refl
signed_capped (Some (false, m)) = signed-plus m
signed_capped (Some (true, m)) = signed-minus m

pub untyped_capped : (z : Option Signed) → plain_literal (capped_signed z) ≡ plain_literal z
unfolding plain_literal
untyped_capped z = rw (signed_capped z) refl

-- `split_once` at `#`
pub halves_of : (bs : List ℕ) (r : Option (Bor (List ℕ) × Bor (List ℕ)))
    → MatchOption r (position_or_len is_hash bs ≡ length bs)
    (λ x. (position_or_len is_hash bs < length bs) × (x.0.now ≡ before_first is_hash bs)
    × (x.1.now ≡ after_first is_hash bs))
    → option_map (λ h. (h.0.now, h.1.now)) r ≡ split_at_hash bs
unfolding split_at_hash
halves_of bs None h = rw (le-ltb (position_or_len is_hash bs) (length bs) (omega (arith, h))) refl
halves_of bs (Some x) h = rw (lt-ltb (position_or_len is_hash bs) (length bs) h.0, h.1, h.2) refl

pub integer_some : (w : List ℕ) (h : List ℕ × List ℕ) → split_at_hash w ≡ Some h
    → integer w ≡ based_integer h.0 h.1
unfolding integer
integer_some w h e = rw e refl

pub integer_none : (w : List ℕ) → split_at_hash w ≡ None → integer w ≡ decimal w
unfolding integer
integer_none w e = rw e refl
