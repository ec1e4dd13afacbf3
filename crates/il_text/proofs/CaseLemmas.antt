-- Letters in upper case: literals.
use Rattle.std.proofs.Common.{◌≡◌, ℕ, suc, ◌+◌, ◌*◌, ◌<◌, ◌||◌, not, Bool, true, false, cond, List, [], ◌∷◌, Option, Some, None, option_map, option_and_then, map, filter, length, drop, take, eqb, ltb, Result, Ok, codes, refl, ap, ◌∙◌, arith, lit<}
use Rattle.std.proofs.lemmas.Bool.Decides.{nat_tests}
use Rattle.std.proofs.lemmas.List.{drop-map, take-map}
use Rattle.std.specs.Char.{to_ascii_uppercase, is_ascii_digit, is_ascii_alphabetic, is_ascii_alphanumeric, digit_value}
use Rattle.std.specs.List.{position_or_len, prefix_len}
use Rattle.std.specs.Str.Parse.{digits_value_after}
use Rattle.std.specs.Prelude.{ℤ}
use Rattle.bay_base.specs.Results.{◌>>=◌}
use Rattle.bay_base.specs.Names.{same_name}
use Rattle.il_text.specs.declared.literal.LiteralFault.{LiteralFault}
use Rattle.il_text.specs.declared.program.Literal.TheVariants.{Lint}
use Rattle.bay_base.proofs.NameLemmas.{same-upper}
use Rattle.il_text.specs.Literals.{is_underscore, is_hash, is_integer, number, split_at_hash, base_of, decimal, based_integer, integer, Signed, number_value, truth_of, number_or_truth, bool_or_truth, typed_number, bool_literal, int_literal, dint_literal, time_literal, typed_bool, typed_int, typed_dint, typed_lint, typed_time, Duration, number_len, unit_len, number_of_part, with_part, part, parts, total_of, milliseconds, prefixed_literal}

-- a character in upper case
abbrev pub up : ℕ → ℕ
up = to_ascii_uppercase

pub cond-up : {A B : Type 0} (f : A → B) (b : Bool) (x y : A) → cond b (f x) (f y) ≡ f (cond b x y)
cond-up f true x y = refl
cond-up f false x y = refl

pub up-eqb : (x k : ℕ) → k < 65 → eqb (up x) k ≡ eqb x k
up-eqb x k h = grind (arith, nat_tests)

pub up-underscore : (x : ℕ) → eqb (up x) 95 ≡ eqb x 95
up-underscore x = grind (arith, nat_tests)

pub up-digit : (x : ℕ) → is_ascii_digit (up x) ≡ is_ascii_digit x
up-digit x = grind (arith, nat_tests)

pub up-alphabetic : (x : ℕ) → is_ascii_alphabetic (up x) ≡ is_ascii_alphabetic x
up-alphabetic x = grind (arith, nat_tests)

pub up-alphanumeric : (x : ℕ) → is_ascii_alphanumeric (up x) ≡ is_ascii_alphanumeric x
up-alphanumeric x = grind (arith, nat_tests)

pub up-digit_value : (x : ℕ) → digit_value (up x) ≡ digit_value x
up-digit_value x = grind (arith, nat_tests)

pub same-up : (a b : List ℕ) → same_name (map up a) b ≡ same_name a b
same-up a b = same-upper a b

pub length-up : (a : List ℕ) → length (map up a) ≡ length a
length-up [] = refl
length-up (x ∷ a) = ap suc (length-up a)

pub prefix-up : (p : ℕ → Bool) → ((x : ℕ) → p (up x) ≡ p x) → (xs : List ℕ)
    → prefix_len p (map up xs) ≡ prefix_len p xs
prefix-up p h [] = refl
prefix-up p h (x ∷ xs) = rw (h x, prefix-up p h xs) refl

integer_from-up : (radix : ℕ) (w : Bool) (ds : List ℕ)
    → is_integer radix w (map up ds) ≡ is_integer radix w ds
unfolding is_integer
integer_from-up radix w [] = refl
integer_from-up radix w (x ∷ xs) =
    let t : is_integer radix true (map up xs) ≡ is_integer radix true xs =
    unfold is_integer in integer_from-up radix true xs in
    let f : is_integer radix false (map up xs) ≡ is_integer radix false xs =
    unfold is_integer in integer_from-up radix false xs in
    rw (up-underscore x, up-digit_value x, t, f) refl

abbrev kept : List ℕ → List ℕ
kept = filter (λ x. not (is_underscore x))

kept-step : (radix n x : ℕ) (l m : List ℕ) (b : Bool)
    → ((k : ℕ) → digits_value_after radix k l ≡ digits_value_after radix k m)
    → digits_value_after radix n (cond (not b) (up x ∷ l) l)
    ≡ digits_value_after radix n (cond (not b) (x ∷ m) m)
kept-step radix n x l m true h = h n
kept-step radix n x l m false h = rw (up-digit_value x) (h (n * radix + digit_value x))

value-up : (radix n : ℕ) (ds : List ℕ)
    → digits_value_after radix n (kept (map up ds)) ≡ digits_value_after radix n (kept ds)
value-up radix n [] = refl
value-up radix n (x ∷ xs) =
    rw (up-underscore x) (kept-step radix n x (kept (map up xs)) (kept xs) (eqb x 95)
    (λ k. value-up radix k xs))

number-up : (radix : ℕ) (ds : List ℕ) → number radix (map up ds) ≡ number radix ds
unfolding number
number-up radix ds = rw (integer_from-up radix true ds, value-up radix 0 ds) refl

abbrev pub up_both : List ℕ × List ℕ → List ℕ × List ℕ
up_both h = (map up h.0, map up h.1)

hash-up : (w : List ℕ) → position_or_len is_hash (map up w) ≡ position_or_len is_hash w
hash-up w = prefix-up (λ x. not (is_hash x)) (λ x. ap not (up-eqb x 35 (lit< tt))) w

pub halves-up : (w : List ℕ) → split_at_hash (map up w) ≡ option_map up_both (split_at_hash w)
unfolding split_at_hash
halves-up w =
    let n : ℕ = position_or_len is_hash w in
    rw (hash-up w, length-up w, take-map up n w, drop-map up (n + 1) w)
    (cond-up (option_map up_both) (ltb n (length w)) (Some (take n w, drop (n + 1) w)) None)

base-up : (w : List ℕ) → base_of (map up w) ≡ base_of w
unfolding base_of
base-up w = simp same-up

pub decimal-up : (w : List ℕ) → decimal (map up w) ≡ decimal w
unfolding decimal
decimal-up [] = refl
decimal-up (x ∷ xs) =
    rw (up-eqb x 45 (lit< tt), up-eqb x 43 (lit< tt), number-up 10 xs, number-up 10 (x ∷ xs)) refl

based-up : (a b : List ℕ) → based_integer (map up a) (map up b) ≡ based_integer a b
unfolding based_integer
based-up a b = simp (base-up, number-up)

integer-by : (w : List ℕ) (o : Option (List ℕ × List ℕ)) → split_at_hash w ≡ o
    → integer (map up w) ≡ integer w
unfolding integer
integer-by w None e = rw (halves-up w, e) (decimal-up w)
integer-by w (Some h) e = rw (halves-up w, e) (based-up h.0 h.1)

integer-up : (w : List ℕ) → integer (map up w) ≡ integer w
integer-up w = integer-by w (split_at_hash w) refl

part_number-up : (b : Bool) (ds : List ℕ) → number_of_part b (map up ds) ≡ number_of_part b ds
part_number-up b [] = refl
part_number-up b (x ∷ xs) = rw (up-underscore x, number-up 10 xs, number-up 10 (x ∷ xs)) refl

digits-up : (w : List ℕ) → number_len (map up w) ≡ number_len w
digits-up w =
    prefix-up (λ x. is_ascii_digit x || is_underscore x)
    (λ x. rw (up-digit x, up-underscore x) refl) w

tail-up : (w : List ℕ) → drop (number_len (map up w)) (map up w) ≡ map up (drop (number_len w) w)
tail-up w = rw (digits-up w) (drop-map up (number_len w) w)

unit-up : (w : List ℕ) → unit_len (map up w) ≡ unit_len w
unit-up w = rw (tail-up w) (prefix-up is_ascii_alphabetic up-alphabetic (drop (number_len w) w))

letters-up : (w : List ℕ)
    → take (unit_len (map up w)) (drop (number_len (map up w)) (map up w))
    ≡ map up (take (unit_len w) (drop (number_len w) w))
letters-up w = rw (unit-up w, tail-up w) (take-map up (unit_len w) (drop (number_len w) w))

after-up : (w : List ℕ) → drop (unit_len (map up w)) (drop (number_len (map up w)) (map up w))
    ≡ map up (drop (unit_len w) (drop (number_len w) w))
after-up w = rw (unit-up w, tail-up w) (drop-map up (unit_len w) (drop (number_len w) w))

front-up : (w : List ℕ) → take (number_len (map up w)) (map up w) ≡ map up (take (number_len w) w)
front-up w = rw (digits-up w) (take-map up (number_len w) w)

abbrev up_duration : Duration → Duration
up_duration d = record { rest = map up d.rest; total = d.total; begun = d.begun }

with-up : (f : ℕ) (d : Duration) (o : Option ℕ)
    → with_part f (up_duration d) o ≡ option_map up_duration (with_part f d o)
with-up f d None = refl
with-up f d (Some n) =
    ap (λ (r : List ℕ). Some (record { rest = r; total = d.total + n * f; begun = true }))
    (after-up d.rest)

part-up : (u : List ℕ) (f : ℕ) (d : Duration)
    → part u f (up_duration d) ≡ option_map up_duration (part u f d)
unfolding part
part-up u f d =
    let word : List ℕ = take (unit_len d.rest) (drop (number_len d.rest) d.rest) in
    let value : Option ℕ = number_of_part d.begun (take (number_len d.rest) d.rest) in
    rw (
      letters-up d.rest,
      same-up word u,
      front-up d.rest,
      part_number-up d.begun (take (number_len d.rest) d.rest),
      with-up f d value,
    )
    (cond-up (option_map up_duration) (same_name word u) (with_part f d value) (Some d))

then-up : (u : List ℕ) (f : ℕ) (o q : Option Duration) → o ≡ option_map up_duration q
    → option_and_then (part u f) o ≡ option_map up_duration (option_and_then (part u f) q)
then-up u f o None e = rw e refl
then-up u f o (Some d) e = rw e (part-up u f d)

total-up : (o q : Option Duration) → o ≡ option_map up_duration q
    → option_and_then total_of o ≡ option_and_then total_of q
unfolding total_of
total-up o None e = rw e refl
total-up o (Some d) e = rw (e, length-up d.rest) refl

milliseconds-up : (w : List ℕ) → milliseconds (map up w) ≡ milliseconds w
unfolding milliseconds parts
milliseconds-up w =
    let start : Duration = record { rest = w; total = 0; begun = false } in
    total-up _ _ (then-up _ 1 _ _
    (then-up _ 1000 _ _ (then-up _ 60000 _ _
    (then-up _ 3600000 _ _ (part-up _ 86400000 start)))))

truth-up : (w : List ℕ) → truth_of (map up w) ≡ truth_of w
truth-up w = rw (same-up w (codes "TRUE"), same-up w (codes "FALSE")) refl

number-by : (w : List ℕ) (o : Option Bool) → number_or_truth (map up w) o ≡ number_or_truth w o
number-by w (Some b) = refl
number-by w None = ap number_value (integer-up w)

typed-up : (w : List ℕ) → typed_number (map up w) ≡ typed_number w
unfolding typed_number
typed-up w = ap (number_or_truth (map up w)) (truth-up w) ∙ number-by w (truth_of w)

bool-by : (w : List ℕ) (o : Option Bool) → bool_or_truth (map up w) o ≡ bool_or_truth w o
bool-by w (Some b) = refl
bool-by w None = ap (λ (z : Option Signed). number_value z >>= bool_literal) (integer-up w)

bool-up : (w : List ℕ) → typed_bool (map up w) ≡ typed_bool w
unfolding typed_bool
bool-up w = ap (bool_or_truth (map up w)) (truth-up w) ∙ bool-by w (truth_of w)

time-up : (w : List ℕ) → typed_time (map up w) ≡ typed_time w
unfolding typed_time
time-up w = ap time_literal (milliseconds-up w)

int-up : (w : List ℕ) → typed_int (map up w) ≡ typed_int w
unfolding typed_int
int-up w = ap (λ (z : Result ℤ LiteralFault). z >>= int_literal) (typed-up w)

dint-up : (w : List ℕ) → typed_dint (map up w) ≡ typed_dint w
unfolding typed_dint
dint-up w = ap (λ (z : Result ℤ LiteralFault). z >>= dint_literal) (typed-up w)

lint-up : (w : List ℕ) → typed_lint (map up w) ≡ typed_lint w
unfolding typed_lint
lint-up w = ap (λ (z : Result ℤ LiteralFault). z >>= (λ value. Ok (Lint value))) (typed-up w)

pub prefixed-up : (a w : List ℕ) → prefixed_literal (map up a) (map up w) ≡ prefixed_literal a w
unfolding prefixed_literal
prefixed-up a w = simp (same-up, bool-up, int-up, dint-up, lint-up, time-up, based-up)
