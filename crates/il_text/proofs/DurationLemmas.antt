-- Parts of a duration, with totals past every bound counted as one.
use Rattle.std.proofs.Common.{◌≡◌, ℕ, ◌+◌, ◌-◌, ◌*◌, ◌^◌, ◌<◌, ◌≤◌, ◌&&◌, ◌==◌, Bool, true, cond, List, Option, Some, None, option_and_then, length, take, drop, min, refl, sym, ap, subst, ◌∙◌, arith, ⊎_elim, leb, false}
use Rattle.std.proofs.lemmas.Option.{same_Some}
use Rattle.std.proofs.lemmas.Bool.{cases_lt}
use Rattle.std.proofs.Math.Nat.{mul-le-mul_left, mul-le-mul_right}
use Rattle.bay_base.specs.Names.{same_name}
use Rattle.il_text.specs.Literals.{Duration, number_len, unit_len, number_of_part, part, total_of, time_literal}
use Rattle.il_text.specs.Runs.{capped_number}
use Rattle.il_text.specs.Durations.{capped_one, capped_duration, capped_time}
use Rattle.std.proofs.lemmas.Bool.Decides.{nat_tests}

cap-sum : (t n f : ℕ) → 0 < f
    → min (t + n * f) (2 ^ 32) ≡ min (min t (2 ^ 32) + min n (2 ^ 32) * f) (2 ^ 32)
cap-sum t n f h = ⊎_elim
    (λ (k : 2 ^ 32 < n).
    let e : min n (2 ^ 32) ≡ 2 ^ 32 = omega arith in
    let some : 1 ≤ f = omega arith in
    let past : 2 ^ 32 ≤ n = omega arith in
    let p : (2 ^ 32) * 1 ≤ (2 ^ 32) * f = mul-le-mul_left (2 ^ 32) some in
    let q : (2 ^ 32) * f ≤ n * f = mul-le-mul_right f past in
    rw e (omega arith))
    (λ (k : n ≤ 2 ^ 32). let e : min n (2 ^ 32) ≡ n = omega arith in rw e (omega arith))
    (cases_lt (2 ^ 32) n)

pub none-from : (o : Option Duration) → capped_duration o ≡ None → o ≡ None
none-from None e = refl
none-from (Some d) e = cc

-- the letters after the first number
abbrev unit_of : List ℕ → List ℕ
unit_of w = take (unit_len w) (drop (number_len w) w)

pub part-none : (o : Option Duration) (u : List ℕ) (f : ℕ) → capped_duration o ≡ None
    → capped_duration (option_and_then (part u f) o) ≡ None
part-none o u f e = rw (none-from o e) refl

other-here : (d : Duration) (u : List ℕ) (f : ℕ) → same_name (unit_of d.rest) u ≡ false
    → capped_duration (part u f d) ≡ Some (capped_one d)
unfolding part
other-here d u f h = rw h refl

pub part-other : (o : Option Duration) (s : Duration) (u : List ℕ) (f : ℕ)
    → capped_duration o ≡ Some s → same_name (unit_of s.rest) u ≡ false
    → capped_duration (option_and_then (part u f) o) ≡ Some s
part-other None s u f e h = cc
part-other (Some d) s u f e h =
    let same = same_Some (capped_one d) s e in
    other-here d u f (subst (λ (r : List ℕ). same_name (unit_of r) u ≡ false)
    (sym (ap (λ (x : Duration). x.rest) same)) h) ∙ e

capped-none : (o : Option ℕ) → capped_number o ≡ None → o ≡ None
capped-none None e = refl
capped-none (Some n) e = cc

capped-some : (o : Option ℕ) (v : ℕ) → capped_number o ≡ Some v
    → (n : ℕ) × (o ≡ Some n) × (min n (2 ^ 64 - 1) ≡ v)
capped-some None v e = cc
capped-some (Some n) v e = (n, refl, cc)

bad-here : (d : Duration) (u : List ℕ) (f : ℕ) → same_name (unit_of d.rest) u ≡ true
    → capped_number (number_of_part d.begun (take (number_len d.rest) d.rest)) ≡ None
    → capped_duration (part u f d) ≡ None
unfolding part
bad-here d u f h n = rw (h, capped-none _ n) refl

pub part-bad : (o : Option Duration) (s : Duration) (u : List ℕ) (f : ℕ)
    → capped_duration o ≡ Some s → same_name (unit_of s.rest) u ≡ true
    → capped_number (number_of_part s.begun (take (number_len s.rest) s.rest)) ≡ None
    → capped_duration (option_and_then (part u f) o) ≡ None
part-bad None s u f e h n = cc
part-bad (Some d) s u f e h n =
    let same = sym (same_Some (capped_one d) s e) in
    bad-here d u f (subst (λ (x : Duration). same_name (unit_of x.rest) u ≡ true) same h)
    (subst (λ (x : Duration). capped_number
    (number_of_part x.begun (take (number_len x.rest) x.rest))
    ≡ None) same n)

-- the duration after a part, from the one before and the part's number
abbrev after_part : ℕ → ℕ → Duration → Duration
after_part f v s =
    record {
      rest = drop (unit_len s.rest) (drop (number_len s.rest) s.rest);
      total = min (min s.total (2 ^ 32) + min v (2 ^ 32) * f) (2 ^ 32);
      begun = true;
    }

more-total : (t n v f : ℕ) → 0 < f → min n (2 ^ 64 - 1) ≡ v
    → min (t + n * f) (2 ^ 32) ≡ min (min (min t (2 ^ 32)) (2 ^ 32) + min v (2 ^ 32) * f) (2 ^ 32)
more-total t n v f p e =
    let a : min (min t (2 ^ 32)) (2 ^ 32) ≡ min t (2 ^ 32) = omega arith in
    let b : min v (2 ^ 32) ≡ min n (2 ^ 32) = omega arith in
    rw (a, b) (cap-sum t n f p)

more-here : (d : Duration) (u : List ℕ) (f v : ℕ) → 0 < f → same_name (unit_of d.rest) u ≡ true
    → capped_number (number_of_part d.begun (take (number_len d.rest) d.rest)) ≡ Some v
    → capped_duration (part u f d) ≡ Some (after_part f v (capped_one d))
unfolding part
more-here d u f v p h n =
    let q = capped-some _ v n in
    rw (h, q.1)
    (ap (λ (t : ℕ). Some (record {
      rest = drop (unit_len d.rest) (drop (number_len d.rest) d.rest);
      total = t;
      begun = true;
    })) (more-total d.total q.0 v f p q.2))

pub part-more : (o : Option Duration) (s : Duration) (u : List ℕ) (f v : ℕ) → 0 < f
    → capped_duration o ≡ Some s → same_name (unit_of s.rest) u ≡ true
    → capped_number (number_of_part s.begun (take (number_len s.rest) s.rest)) ≡ Some v
    → capped_duration (option_and_then (part u f) o)
    ≡ Some (record {
      rest = drop (unit_len s.rest) (drop (number_len s.rest) s.rest);
      total = min (min s.total (2 ^ 32) + min v (2 ^ 32) * f) (2 ^ 32);
      begun = true;
    })
part-more None s u f v p e h n = cc
part-more (Some d) s u f v p e h n =
    let back = same_Some (capped_one d) s e in
    let same = sym back in
    more-here d u f v p (subst (λ (x : Duration). same_name (unit_of x.rest) u ≡ true) same h)
    (subst (λ (x : Duration). capped_number
    (number_of_part x.begun (take (number_len x.rest) x.rest))
    ≡ Some v) same n)
    ∙ ap (λ (x : Duration). Some (after_part f v x)) back

pub ruleset part_rules = (part-none, part-other, part-bad, part-more)

map-cond : (b : Bool) (t : ℕ)
    → capped_time (cond b (Some t) None) ≡ cond b (Some (min t (2 ^ 32))) None
map-cond true t = refl
map-cond false t = refl

total-here : (d : Duration)
    → capped_time (total_of d)
    ≡ cond ((capped_one d).begun && length (capped_one d).rest == 0) (Some (capped_one d).total)
    None
unfolding total_of
total-here d = map-cond (d.begun && length d.rest == 0) d.total

pub total-from : (o : Option Duration) (s : Duration) → capped_duration o ≡ Some s
    → capped_time (option_and_then total_of o)
    ≡ cond (s.begun && length s.rest == 0) (Some s.total) None
total-from None s e = cc
total-from (Some d) s e =
    total-here d ∙ ap (λ (x : Duration). cond (x.begun && length x.rest == 0) (Some x.total) None)
    (same_Some (capped_one d) s e)

pub time_capped : (o : Option ℕ) → time_literal (capped_time o) ≡ time_literal o
time_capped None = refl
time_capped (Some n) = ⊎_elim
    (λ (k : 2 ^ 32 < n).
    let e : min n (2 ^ 32) ≡ 2 ^ 32 = omega arith in
    let f : leb n 2147483647 ≡ false = grind (arith, nat_tests) in
    rw (e, f) refl)
    (λ (k : n ≤ 2 ^ 32). let e : min n (2 ^ 32) ≡ n = omega arith in rw e refl)
    (cases_lt (2 ^ 32) n)
