-- Durations as parts in falling units: the unit taken first, and those left.
use Rattle.std.proofs.lemmas.Grind.{common_steps}
use Rattle.std.proofs.lemmas.Option.{same_Some}
use Rattle.std.proofs.Common.{◌≡◌, ℕ, ◌+◌, ◌<◌, ◌&&◌, ◌==◌, ◌⊎◌, inl, inr, Bool, true, false, cond, List, [], ◌∷◌, ◌++◌, Option, Some, None, option_and_then, length, take, drop, refl, sym, ap, subst, ◌∙◌, arith, append_assoc, append-nil, zero-add, get_or, ◌*◌, ◌≤◌, add-zero, ◌||◌, not, map, eqb, ltb, ⊎_elim}
use Rattle.std.specs.Prelude.{⊤}
use Rattle.std.proofs.lemmas.Bool.{eqb-true, eq-eqb, cases_lt, false≢true, and_parts}
use Rattle.std.proofs.Math.Bool.{or-true, or-false}
use Rattle.std.proofs.Math.Seq.{take-append_seam, drop-append_seam}
use Rattle.std.proofs.lemmas.Bool.Decides.{nat_tests}
use Rattle.std.proofs.lemmas.Slice.Eq.{bytes_eq-Decides}
use Rattle.std.proofs.lemmas.List.Folds.{prefix_len-append}
use Rattle.std.specs.Char.{is_ascii_digit, is_ascii_alphabetic, digit_value}
use Rattle.il_text.proofs.CaseLemmas.{up, up-digit, up-underscore, up-alphabetic, prefix-up, length-up}
use Rattle.std.proofs.lemmas.List.{take-append-drop, nil_from_length}
use Rattle.std.proofs.lemmas.List.Sums.{sum_by-append}
use Rattle.std.specs.List.{flat_map, sum_by, prefix_len}
use Rattle.bay_base.specs.Names.{same_name}
use Rattle.il_text.specs.Literals.{is_underscore, is_integer, number, Duration, number_len, unit_len, number_of_part, with_part, part, parts, total_of, milliseconds}
use Rattle.il_text.specs.DurationGrammar.{Unit, days, hours, minutes, seconds, thousandths, unit_letters, unit_ms, DurationPart, part_octets, part_ms, IsPart, UnitsFall, IsDuration, DurationsAreRead}

-- the parts of these units are taken, one unit behind the other
abbrev run : List Unit → Option Duration → Option Duration
run [] o = o
run (u ∷ us) o = run us (option_and_then (part (unit_letters u) (unit_ms u)) o)

abbrev units : List Unit
units = days ∷ hours ∷ minutes ∷ seconds ∷ thousandths ∷ []

-- units that fall, each below the one before it
abbrev Below : ℕ → List Unit → Type 0
Below above [] = ⊤
Below above (u ∷ us) = (unit_ms u < above) × Below (unit_ms u) us

-- parts of units below this one, which may stand behind others
abbrev Parts : Bool → ℕ → List DurationPart → Type 0
Parts behind above [] = ⊤
Parts behind above (p ∷ ps) =
    IsPart behind p × (unit_ms p.unit < above) × UnitsFall (unit_ms p.unit) ps

record Taken (u : Unit) (d e : Duration) : Type 0 where
  p : DurationPart
  is : IsPart d.begun p
  of : p.unit ≡ u
  spelled : d.rest ≡ part_octets p ++ e.rest
  summed : e.total ≡ d.total + part_ms p
  begun : e.begun ≡ true

record Read (above : ℕ) (d e : Duration) : Type 0 where
  ps : List DurationPart
  fall : Parts d.begun above ps
  spelled : d.rest ≡ flat_map part_octets ps ++ e.rest
  summed : e.total ≡ d.total + sum_by part_ms ps
  none : ps ≡ [] → e.begun ≡ d.begun

no-run : (us : List Unit) (e : Duration) → run us None ≡ Some e → ⊥
no-run [] e h = cc
no-run (u ∷ us) e h = no-run us e h

-- a text is the number in front, the letters behind it, and what is left
pieces-of : (n m : ℕ) (w : List ℕ) → w ≡ (take n w ++ take m (drop n w)) ++ drop m (drop n w)
pieces-of n m w =
    sym (append_assoc (take n w) (take m (drop n w)) (drop m (drop n w))
    ∙ ap (λ (t : List ℕ). take n w ++ t) (take-append-drop m (drop n w)) ∙ take-append-drop n w)

taken-with : (u : Unit) (d e : Duration) (o : Option ℕ)
    → number_of_part d.begun (take (number_len d.rest) d.rest) ≡ o
    → same_name (take (unit_len d.rest) (drop (number_len d.rest) d.rest)) (unit_letters u) ≡ true
    → with_part (unit_ms u) d o ≡ Some e → Taken u d e
taken-with u d e None n s h = cc
taken-with u d e (Some k) n s h = subst (λ (x : Duration). Taken u d x) (same_Some _ e h) (record {
  p = record {
    digits = take (number_len d.rest) d.rest;
    name = take (unit_len d.rest) (drop (number_len d.rest) d.rest);
    count = k;
    unit = u;
  };
  is = record { counted = n; named = s };
  of = refl;
  spelled = pieces-of (number_len d.rest) (unit_len d.rest) d.rest;
  summed = refl;
  begun = refl;
})

taken-or-same : (u : Unit) (d e : Duration) (b : Bool)
    → same_name (take (unit_len d.rest) (drop (number_len d.rest) d.rest)) (unit_letters u) ≡ b
    → cond b (with_part (unit_ms u) d (number_of_part d.begun (take (number_len d.rest) d.rest)))
    (Some d) ≡ Some e → (d ≡ e) ⊎ Taken u d e
taken-or-same u d e true s h = inr (taken-with u d e _ refl s h)
taken-or-same u d e false s h = inl (same_Some d e h)

one-unit : (u : Unit) (d e : Duration) → part (unit_letters u) (unit_ms u) d ≡ Some e
    → (d ≡ e) ⊎ Taken u d e
unfolding part
one-unit u d e h = taken-or-same u d e _ refl h

raised : (behind : Bool) (low high : ℕ) (ps : List DurationPart) → low < high → Parts behind low ps
    → Parts behind high ps
raised behind low high [] h f = tt
raised behind low high (p ∷ ps) h f = (f.0, omega (arith, f.1), f.2)

to-fall : (low : ℕ) (ps : List DurationPart) → Parts true low ps → UnitsFall low ps
to-fall low [] f = tt
to-fall low (p ∷ ps) f = f

skipped : (low high : ℕ) (d e : Duration) → low < high → Read low d e → Read high d e
skipped low high d e h r =
    record {
      ps = r.ps;
      fall = raised d.begun low high r.ps h r.fall;
      spelled = r.spelled;
      summed = r.summed;
      none = r.none;
    }

joined : (u : Unit) (above : ℕ) (d m e : Duration) → unit_ms u < above → Taken u d m
    → Read (unit_ms u) m e → Read above d e
joined u above d m e h t r = record {
  ps = t.p ∷ r.ps;
  fall = (
    t.is,
    rw t.of h,
    rw t.of (to-fall (unit_ms u) r.ps
        (subst (λ (b : Bool). Parts b (unit_ms u) r.ps) t.begun r.fall)),
  );
  spelled =
      t.spelled ∙ ap (λ (w : List ℕ). part_octets t.p ++ w) r.spelled
      ∙ sym (append_assoc (part_octets t.p) (flat_map part_octets r.ps) e.rest);
  summed = r.summed ∙ rw (t.summed, sum_by-append part_ms (t.p ∷ []) r.ps) (omega arith);
  none = λ z. cc;
}

read-from : (u : Unit) (us : List Unit) (above : ℕ) (d e : Duration) (o : Option Duration)
    → unit_ms u < above
    → ((m : Duration) → run us (Some m) ≡ Some e → Read (unit_ms u) m e)
    → part (unit_letters u) (unit_ms u) d ≡ o → run us o ≡ Some e → Read above d e
read-from u us above d e None h more s r = absurd (no-run us e r)
read-from u us above d e (Some m) h more s r = ⊎_elim
    (λ (same : d ≡ m). skipped (unit_ms u) above d e h
    (subst (λ (x : Duration). Read (unit_ms u) x e) (sym same) (more m r)))
    (λ (t : Taken u d m). joined u above d m e h t (more m r))
    (one-unit u d m s)

read-units : (us : List Unit) (above : ℕ) (d e : Duration) → Below above us
    → run us (Some d) ≡ Some e → Read above d e
read-units [] above d e b r = subst (λ (x : Duration). Read above d x) (same_Some d e r)
    (record { ps = []; fall = tt; spelled = refl; summed = omega arith; none = λ z. refl })
read-units (u ∷ us) above d e b r =
    read-from u us above d e _ b.0 (λ m k. read-units us (unit_ms u) m e b.1 k) refl r

all-below : Below 86400001 units
all-below = (omega arith, (omega arith, (omega arith, (omega arith, (omega arith, tt)))))

abbrev start : List ℕ → Duration
start w = record { rest = w; total = 0; begun = false }

as-run : (w : List ℕ) → milliseconds w ≡ option_and_then total_of (run units (Some (start w)))
unfolding milliseconds parts
as-run w = refl

total-if : (b : Bool) (d : Duration) (ms : ℕ)
    → cond (b && length d.rest == 0) (Some d.total) None ≡ Some ms
    → (b ≡ true) × (d.rest ≡ []) × (d.total ≡ ms)
total-if false d ms h = cc
total-if true d ms h = rest-if (length d.rest == 0) d ms refl h where
  rest-if : (b : Bool) (d : Duration) (ms : ℕ) → (length d.rest == 0) ≡ b
      → cond b (Some d.total) None ≡ Some ms → (true ≡ true) × (d.rest ≡ []) × (d.total ≡ ms)
  rest-if false d ms e h = cc
  rest-if true d ms e h = (refl, nil_from_length d.rest (eqb-true _ _ e), same_Some _ ms h)

total-found : (d : Duration) (ms : ℕ) → total_of d ≡ Some ms
    → (d.begun ≡ true) × (d.rest ≡ []) × (d.total ≡ ms)
unfolding total_of
total-found d ms h = total-if d.begun d ms h

spelled-out : (w : List ℕ) (ms : ℕ) (ps : List DurationPart) (above : ℕ) → Parts false above ps
    → (ps ≡ [] → ⊥) → w ≡ flat_map part_octets ps → ms ≡ sum_by part_ms ps → IsDuration w ms
spelled-out w ms [] above f z s t = absurd (z refl)
spelled-out w ms (p ∷ ps) above f z s t =
    record { first = p; more = ps; begins = f.0; falls = f.2; spelled = s; summed = t }

ended : (w : List ℕ) (ms : ℕ) (above : ℕ) (e : Duration) → Read above (start w) e
    → total_of e ≡ Some ms → IsDuration w ms
ended w ms above e r t =
    let f = total-found e ms t in
    spelled-out w ms r.ps above r.fall (λ z. false≢true (sym (r.none z) ∙ f.0))
    (r.spelled ∙ rw f.1 (append-nil (flat_map part_octets r.ps)))
    (sym f.2 ∙ r.summed ∙ zero-add (sum_by part_ms r.ps))

found-in : (w : List ℕ) (ms : ℕ) (o : Option Duration) → run units (Some (start w)) ≡ o
    → option_and_then total_of o ≡ Some ms → IsDuration w ms
found-in w ms None e h = cc
found-in w ms (Some d) e h =
    ended w ms 86400001 d (read-units units 86400001 (start w) d all-below e) h

pub is-duration : (w : List ℕ) (ms : ℕ) → milliseconds w ≡ Some ms → IsDuration w ms
is-duration w ms h = found-in w ms _ refl (sym (as-run w) ∙ h)

-- a character of a number
abbrev numeral : ℕ → Bool
numeral x = is_ascii_digit x || is_underscore x

numeral-digit : (x : ℕ) → ltb (digit_value x) 10 ≡ true → numeral x ≡ true
numeral-digit x h = grind (arith, nat_tests)

numeral-underscore : (x : ℕ) → eqb x 95 ≡ true → numeral x ≡ true
numeral-underscore x h = grind (arith, nat_tests)

no-letter : (x : ℕ) → numeral x ≡ true → is_ascii_alphabetic x ≡ false
no-letter x h = grind (arith, nat_tests)

numeral-up : (x : ℕ) → numeral (up x) ≡ numeral x
numeral-up x = rw (up-digit x, up-underscore x) refl

some-if : (b : Bool) (v k : ℕ) → cond b (Some v) None ≡ Some k → b ≡ true
some-if true v k h = refl
some-if false v k h = cc

abbrev Head : ℕ → List ℕ → Type 0
Head x xs = (b : Bool) × (numeral x ≡ true) × (is_integer 10 b xs ≡ true)

head-if : (x : ℕ) (xs : List ℕ) (u : Bool) → (u ≡ true → eqb x 95 ≡ true)
    → cond u (is_integer 10 true xs) (ltb (digit_value x) 10 && is_integer 10 false xs) ≡ true
    → Head x xs
head-if x xs true e h = (true, numeral-underscore x (e refl), h)
head-if x xs false e h = let p = and_parts _ _ h in (false, numeral-digit x p.0, p.1)

integer-head : (x : ℕ) (xs : List ℕ) (wanted : Bool) → is_integer 10 wanted (x ∷ xs) ≡ true
    → Head x xs
unfolding is_integer
integer-head x xs wanted h =
    unfold is_integer in head-if x xs (not wanted && eqb x 95) (λ e. (and_parts _ _ e).1) h

number-integer : (ds : List ℕ) (k : ℕ) → number 10 ds ≡ Some k → is_integer 10 true ds ≡ true
unfolding number
number-integer ds k h = some-if _ _ k h

part-if : (x : ℕ) (xs : List ℕ) (k : ℕ) (u : Bool) → (u ≡ true → eqb x 95 ≡ true)
    → cond u (number 10 xs) (number 10 (x ∷ xs)) ≡ Some k → Head x xs
part-if x xs k true e h = (true, numeral-underscore x (e refl), number-integer xs k h)
part-if x xs k false e h = integer-head x xs true (number-integer (x ∷ xs) k h)

part-head : (behind : Bool) (x : ℕ) (xs : List ℕ) (k : ℕ) → number_of_part behind (x ∷ xs) ≡ Some k
    → Head x xs
part-head behind x xs k h = part-if x xs k (behind && eqb x 95) (λ e. (and_parts _ _ e).1) h

no-digits : (k : ℕ) (b : Bool) → cond b (number 10 []) (number 10 []) ≡ Some k → ⊥
unfolding number is_integer
no-digits k true h = cc
no-digits k false h = cc

one-longer : (x : ℕ) (ds w : List ℕ) → numeral x ≡ true
    → prefix_len numeral (ds ++ w) ≡ length ds + prefix_len numeral w
    → prefix_len numeral ((x ∷ ds) ++ w) ≡ length (x ∷ ds) + prefix_len numeral w
one-longer x ds w h e = rw (h, e) (omega arith)

digits-in-front : (b : Bool) (ds w : List ℕ) → is_integer 10 b ds ≡ true
    → prefix_len numeral (ds ++ w) ≡ length ds + prefix_len numeral w
digits-in-front b [] w h = sym (zero-add (prefix_len numeral w))
digits-in-front b (x ∷ ds) w h = let p =
    integer-head x ds b h in one-longer x ds w p.1 (digits-in-front p.0 ds w p.2)

number-in-front : (behind : Bool) (ds w : List ℕ) (k : ℕ) → number_of_part behind ds ≡ Some k
    → prefix_len numeral (ds ++ w) ≡ length ds + prefix_len numeral w
number-in-front behind [] w k h = absurd (no-digits k _ h)
number-in-front behind (x ∷ ds) w k h = let p =
    part-head behind x ds k h in one-longer x ds w p.1 (digits-in-front p.0 ds w p.2)

number-ends : (behind : Bool) (ds w : List ℕ) (k : ℕ) → number_of_part behind ds ≡ Some k
    → prefix_len is_ascii_alphabetic (ds ++ w) ≡ 0
number-ends behind [] w k h = absurd (no-digits k _ h)
number-ends behind (x ∷ ds) w k h = rw (no-letter x (part-head behind x ds k h).1) refl

in-upper : (name : List ℕ) (u : Unit) → same_name name (unit_letters u) ≡ true
    → map up name ≡ map up (unit_letters u)
unfolding same_name
in-upper name u h = (bytes_eq-Decides (map up name) (map up (unit_letters u))).0 h

by-letters : (p : ℕ → Bool) → ((x : ℕ) → p (up x) ≡ p x) → (name : List ℕ) (u : Unit)
    → same_name name (unit_letters u) ≡ true → prefix_len p name ≡ prefix_len p (unit_letters u)
by-letters p f name u h =
    sym (prefix-up p f name) ∙ ap (prefix_len p) (in-upper name u h)
    ∙ prefix-up p f (unit_letters u)

as-long : (name : List ℕ) (u : Unit) → same_name name (unit_letters u) ≡ true
    → length name ≡ length (unit_letters u)
as-long name u h = sym (length-up name) ∙ ap length (in-upper name u h) ∙ length-up (unit_letters u)

all-letters : (u : Unit) → prefix_len is_ascii_alphabetic (unit_letters u) ≡ length (unit_letters u)
all-letters u = grind (arith, common_steps)

no-numeral : (u : Unit) → (prefix_len numeral (unit_letters u) ≡ 0)
    × (eqb 0 (length (unit_letters u)) ≡ false) × (same_name [] (unit_letters u) ≡ false)
unfolding same_name
no-numeral days = (refl, refl, refl)
no-numeral hours = (refl, refl, refl)
no-numeral minutes = (refl, refl, refl)
no-numeral seconds = (refl, refl, refl)
no-numeral thousandths = (refl, refl, refl)

name-in-front : (name w : List ℕ) (u : Unit) → same_name name (unit_letters u) ≡ true
    → prefix_len is_ascii_alphabetic w ≡ 0
    → prefix_len is_ascii_alphabetic (name ++ w) ≡ length name
name-in-front name w u h e =
    let a : prefix_len is_ascii_alphabetic name ≡ length name =
    by-letters is_ascii_alphabetic up-alphabetic name u h ∙ all-letters u
    ∙ sym (as-long name u h) in
    prefix_len-append is_ascii_alphabetic name w
    ∙ rw (a, eq-eqb (length name) (length name) refl, e) (add-zero (length name))

name-ends : (name w : List ℕ) (u : Unit) → same_name name (unit_letters u) ≡ true
    → prefix_len numeral (name ++ w) ≡ 0
name-ends name w u h =
    let a : prefix_len numeral name ≡ 0 =
    by-letters numeral numeral-up name u h ∙ (no-numeral u).0 in
    prefix_len-append numeral name w ∙ rw (a, as-long name u h, (no-numeral u).1) refl

cuts : (ds name w r : List ℕ) → r ≡ ds ++ (name ++ w)
    → prefix_len numeral (ds ++ (name ++ w)) ≡ length ds
    → prefix_len is_ascii_alphabetic (name ++ w) ≡ length name
    → (take (number_len r) r ≡ ds) × (take (unit_len r) (drop (number_len r) r) ≡ name)
    × (drop (unit_len r) (drop (number_len r) r) ≡ w)
cuts ds name w r e n m =
    rw (
      e,
      n,
      drop-append_seam ds (name ++ w),
      m,
      take-append_seam ds (name ++ w),
      take-append_seam name w,
      drop-append_seam name w,
    ) (refl, refl, refl)

part-cuts : (behind : Bool) (p : DurationPart) (w r : List ℕ) → IsPart behind p
    → r ≡ part_octets p ++ w
    → prefix_len is_ascii_alphabetic w ≡ 0
    → (take (number_len r) r ≡ p.digits) × (take (unit_len r) (drop (number_len r) r) ≡ p.name)
    × (drop (unit_len r) (drop (number_len r) r) ≡ w)
part-cuts behind p w r is e z =
    cuts p.digits p.name w r (e ∙ append_assoc p.digits p.name w)
    (number-in-front behind p.digits (p.name ++ w) p.count is.counted
    ∙ rw (name-ends p.name w p.unit is.named) (add-zero (length p.digits)))
    (name-in-front p.name w p.unit is.named z)

took-from : (u : Unit) (d : Duration) (ds name w : List ℕ) (k : ℕ)
    → take (number_len d.rest) d.rest ≡ ds
    → take (unit_len d.rest) (drop (number_len d.rest) d.rest) ≡ name
    → drop (unit_len d.rest) (drop (number_len d.rest) d.rest) ≡ w
    → number_of_part d.begun ds ≡ Some k → same_name name (unit_letters u) ≡ true
    → part (unit_letters u) (unit_ms u) d
    ≡ Some (record { rest = w; total = d.total + k * unit_ms u; begun = true })
unfolding part
took-from u d ds name w k a b c n s = rw (b, s, a, n, c) refl

took : (u : Unit) (d : Duration) (p : DurationPart) (w : List ℕ) → IsPart d.begun p → p.unit ≡ u
    → d.rest ≡ part_octets p ++ w → prefix_len is_ascii_alphabetic w ≡ 0
    → part (unit_letters u) (unit_ms u) d
    ≡ Some (record { rest = w; total = d.total + part_ms p; begun = true })
took u d p w is of e z =
    let c = part-cuts d.begun p w d.rest is e z in
    subst (λ (v : Unit). part (unit_letters v) (unit_ms v) d
    ≡ Some (record { rest = w; total = d.total + part_ms p; begun = true })) of
    (took-from p.unit d p.digits p.name w p.count c.0 c.1 c.2 is.counted is.named)

left : (u : Unit) (d : Duration)
    → same_name (take (unit_len d.rest) (drop (number_len d.rest) d.rest)) (unit_letters u) ≡ false
    → part (unit_letters u) (unit_ms u) d ≡ Some d
unfolding part
left u d h = rw h refl

left-at-end : (u : Unit) (d : Duration) → d.rest ≡ [] → part (unit_letters u) (unit_ms u) d ≡ Some d
left-at-end u d e = left u d (rw e (no-numeral u).2)

abbrev measured : List ℕ → ℕ
measured w =
    cond (eqb (length w) 2) 1
    (cond (eqb (get_or w 0 0) 68) 86400000
    (cond (eqb (get_or w 0 0) 72) 3600000 (cond (eqb (get_or w 0 0) 77) 60000 1000)))

size_of : (u : Unit) → measured (map up (unit_letters u)) ≡ unit_ms u
size_of u = grind (arith, common_steps)

abbrev unit_of : ℕ → Unit
unit_of n =
    cond (eqb n 1) thousandths
    (cond (eqb n 1000) seconds (cond (eqb n 60000) minutes (cond (eqb n 3600000) hours days)))

unit-back : (u : Unit) → unit_of (unit_ms u) ≡ u
unit-back u = grind (arith, common_steps)

other-if : (u v : Unit) (name : List ℕ) (b : Bool) → same_name name (unit_letters u) ≡ true
    → unit_ms u < unit_ms v → same_name name (unit_letters v) ≡ b → b ≡ false
other-if u v name false h l k = refl
other-if u v name true h l k =
    let e : unit_ms u ≡ unit_ms v =
    sym (size_of u) ∙ ap measured (sym (in-upper name u h) ∙ in-upper name v k) ∙ size_of v in
    absurd (omega (arith, e, l))

other-unit : (u v : Unit) (name : List ℕ) → same_name name (unit_letters u) ≡ true
    → unit_ms u < unit_ms v
    → same_name name (unit_letters v) ≡ false
other-unit u v name h l = other-if u v name _ h l refl

left-other : (u : Unit) (d : Duration) (p : DurationPart) (w : List ℕ) → IsPart d.begun p
    → unit_ms p.unit < unit_ms u → d.rest ≡ part_octets p ++ w
    → prefix_len is_ascii_alphabetic w ≡ 0
    → part (unit_letters u) (unit_ms u) d ≡ Some d
left-other u d p w is l e z =
    left u d (rw (part-cuts d.begun p w d.rest is e z).1 (other-unit p.unit u p.name is.named l))

-- the units below a bound are these
abbrev Covers : ℕ → List Unit → Type 0
Covers above [] = (v : Unit) → unit_ms v < above → ⊥
Covers above (u ∷ us) =
    ((v : Unit) → unit_ms v < above → unit_ms v ≤ unit_ms u) × Covers (unit_ms u) us

five : (v : Unit) → (unit_ms v ≡ 86400000)
    ⊎ ((unit_ms v ≡ 3600000) ⊎ ((unit_ms v ≡ 60000) ⊎ ((unit_ms v ≡ 1000) ⊎ (unit_ms v ≡ 1))))
five days = inl refl
five hours = inr (inl refl)
five minutes = inr (inr (inl refl))
five seconds = inr (inr (inr (inl refl)))
five thousandths = inr (inr (inr (inr refl)))

covered : Covers 86400001 units
covered = (
  λ v h. omega (arith, h),
  (
    λ v h. omega (arith, h, five v),
    (
      λ v h. omega (arith, h, five v),
      (
        λ v h. omega (arith, h, five v),
        (λ v h. omega (arith, h, five v), λ v h. omega (arith, h, five v)),
      ),
    ),
  ),
)

largest : (v : Unit) → unit_ms v < 86400001
largest v = omega (arith, five v)

from-fall : (low : ℕ) (ps : List DurationPart) → UnitsFall low ps → Parts true low ps
from-fall low [] f = tt
from-fall low (p ∷ ps) f = f

parts-end : (low : ℕ) (ps : List DurationPart) → UnitsFall low ps
    → prefix_len is_ascii_alphabetic (flat_map part_octets ps) ≡ 0
parts-end low [] f = refl
parts-end low (p ∷ ps) f =
    ap (prefix_len is_ascii_alphabetic) (append_assoc p.digits p.name (flat_map part_octets ps))
    ∙ number-ends true p.digits (p.name ++ flat_map part_octets ps) p.count (f.0).counted

abbrev any : List DurationPart → Bool
any [] = false
any (p ∷ ps) = true

abbrev after : Duration → List DurationPart → Duration
after d ps = record { rest = []; total = d.total + sum_by part_ms ps; begun = d.begun || any ps }

nothing-left : (d : Duration) → d.rest ≡ [] → Some d ≡ Some (after d [])
nothing-left d e =
    rw (add-zero d.total, or-false d.begun)
    (ap (λ (w : List ℕ). Some (record { rest = w; total = d.total; begun = d.begun })) e)

abbrev behind_it : Duration → DurationPart → List DurationPart → Duration
behind_it d p ps =
    record { rest = flat_map part_octets ps; total = d.total + part_ms p; begun = true }

added : (d : Duration) (p : DurationPart) (ps : List DurationPart)
    → Some (after (behind_it d p ps) ps) ≡ Some (after d (p ∷ ps))
added d p ps =
    let t : d.total + part_ms p + sum_by part_ms ps ≡ d.total + sum_by part_ms (p ∷ ps) =
    rw (sum_by-append part_ms (p ∷ []) ps) (omega arith) in
    rw (or-true d.begun) (ap (λ (n : ℕ). Some (record { rest = []; total = n; begun = true })) t)

passes : (us : List Unit) (above : ℕ) (d : Duration) (ps : List DurationPart) → Covers above us
    → Parts d.begun above ps → d.rest ≡ flat_map part_octets ps
    → run us (Some d) ≡ Some (after d ps)
passes [] above d [] c f e = nothing-left d e
passes [] above d (p ∷ ps) c f e = absurd (c p.unit f.1)
passes (u ∷ us) above d [] c f e =
    ap (run us) (left-at-end u d e) ∙ passes us (unit_ms u) d [] c.1 tt e
passes (u ∷ us) above d (p ∷ ps) c f e = ⊎_elim
    (λ (l : unit_ms p.unit < unit_ms u). ap (run us)
    (left-other u d p (flat_map part_octets ps) f.0 l e (parts-end (unit_ms p.unit) ps f.2))
    ∙ passes us (unit_ms u) d (p ∷ ps) c.1 (f.0, l, f.2) e)
    (λ (l : unit_ms u ≤ unit_ms p.unit).
    let m : unit_ms p.unit ≤ unit_ms u = c.0 p.unit f.1 in
    let s : unit_ms p.unit ≡ unit_ms u = omega (arith, l, m) in
    let of : p.unit ≡ u = sym (unit-back p.unit) ∙ ap unit_of s ∙ unit-back u in
    ap (run us) (took u d p (flat_map part_octets ps) f.0 of e (parts-end (unit_ms p.unit) ps f.2))
    ∙ passes us (unit_ms u) (behind_it d p ps) ps c.1
    (from-fall (unit_ms u) ps (subst (λ (n : ℕ). UnitsFall n ps) s f.2)) refl ∙ added d p ps)
    (cases_lt (unit_ms p.unit) (unit_ms u))

total-at-end : (n : ℕ) → total_of (record { rest = []; total = n; begun = true }) ≡ Some n
unfolding total_of
total-at-end n = refl

pub has-milliseconds : (w : List ℕ) (ms : ℕ) → IsDuration w ms → milliseconds w ≡ Some ms
has-milliseconds w ms i =
    as-run w ∙ ap (option_and_then total_of)
    (passes units 86400001 (start w) (i.first ∷ i.more) covered
    (i.begins, largest i.first.unit, i.falls) i.spelled)
    ∙ total-at-end (0 + sum_by part_ms (i.first ∷ i.more))
    ∙ ap Some (zero-add (sum_by part_ms (i.first ∷ i.more)) ∙ sym i.summed)

-- what is read as a duration is one as the standard writes it
pub durations : DurationsAreRead
durations w ms = (is-duration w ms, has-milliseconds w ms)
