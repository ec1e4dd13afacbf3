-- The values that octets are, as a function and as a relation.
use Rattle.std.proofs.Common.{◌≡◌, ℕ, zero, suc, ◌+◌, ◌<◌, ◌≤◌, true, false, eqb, ltb, List, [], ◌∷◌, ◌++◌, length, map, get_or, take, drop, Option, Some, None, Result, Ok, Err, refl, sym, ap, subst, ◌∙◌, append_assoc, arith, inl, inr}
use Rattle.std.proofs.lemmas.Option.{same_Some}
use Rattle.std.proofs.lemmas.Bool.{lt-ltb, le-ltb, eqb-true}
use Rattle.std.proofs.Math.ListN.{set}
use Rattle.std.proofs.lemmas.List.{length-append, length-drop, length-take, length-map, map-append, append-nil, take_more_set}
use Rattle.std.proofs.Math.Seq.{get_or-append_right}
use Rattle.bay_ber.specs.declared.fault.BerFault.{BerFault}
use Rattle.bay_ber.specs.declared.fault.BerFault.TheVariants.{Truncated, TagTooLarge}
use Rattle.bay_ber.specs.declared.tag.Tag.{Tag}
use Rattle.bay_ber.specs.Reading.{TlvData, class_of, is_constructed, low_bits, two_octet_tag, tag_at, length_at, tlv_at}
use Rattle.bay_base.specs.Options.{◌>>=◌}
use Rattle.bay_ber.specs.declared.values.Value.{Value}
use Rattle.bay_ber.specs.Values.{Part, part_of, SpellAll, part_of_tlv, prepend_values, with_value_first, values_within, values_in, only_one, value_in, at_most_five, few_in, read_each, each_in}
use Rattle.bay_ber.proofs.ReadLemmas.{IsBytes, bind-ok, chosen, ok-is, with_tag, with_length, length-takes, tlv-takes, tlv-again}

-- ---- what is read leaves less

second-shorter : (first : ℕ) (octets : List ℕ) (x : Tag × List ℕ)
    → two_octet_tag first octets ≡ Ok x
    → length x.1 ≤ length octets
second-shorter first [] x e = absurd cc
second-shorter first (second ∷ octets) x e =
    let made : Tag × List ℕ = (
      record { class = class_of first; constructed = is_constructed first; number = second },
      octets,
    ) in
    elim (chosen (ltb second 128) (Ok made) (Err TagTooLarge) (Ok x) e) [
      | inl here ↦ let same : octets ≡ x.1 =
          ap (λ (y : Tag × List ℕ). y.1) (ok-is made x here.1) in omega (arith, ap length same)
      | inr here ↦ absurd (let e : Err TagTooLarge ≡ Ok x = here.1 in cc)
    ]

tag-shorter : (octets : List ℕ) (x : Tag × List ℕ) → tag_at octets ≡ Ok x
    → length x.1 < length octets
unfolding tag_at
tag-shorter [] x e = absurd cc
tag-shorter (first ∷ octets) x e =
    let made : Tag × List ℕ = (
      record {
        class = class_of first;
        constructed = is_constructed first;
        number = low_bits first;
      },
      octets,
    ) in
    elim (chosen (eqb (low_bits first) 31) (two_octet_tag first octets) (Ok made) (Ok x) e) [
      | inl here ↦ omega (arith, second-shorter first octets x here.1)
      | inr here ↦ let same : octets ≡ x.1 =
          ap (λ (y : Tag × List ℕ). y.1) (ok-is made x here.1) in omega (arith, ap length same)
    ]

length-shorter : (octets : List ℕ) (x : ℕ × List ℕ) → length_at octets ≡ Ok x
    → length x.1 ≤ length octets
length-shorter octets x e =
    let taken = length-takes octets x e in
    omega (arith, ap length taken.parts, length-append taken.len x.1)

pub tlv-shorter : (octets : List ℕ) (r : TlvData) → tlv_at octets ≡ Ok r
    → length r.rest < length octets
unfolding tlv_at
tlv-shorter octets r e =
    let a = bind-ok (tag_at octets) with_tag r e in
    let b = bind-ok (length_at a.0.1) (with_length a.0.0) r a.2 in
    let made : TlvData =
    record { tag = a.0.0; content = take b.0.0 b.0.1; rest = drop b.0.0 b.0.1 } in
    elim (chosen (ltb (length b.0.1) b.0.0) (Err Truncated) (Ok made) (Ok r) b.2) [
      | inl short ↦ absurd (let e : Err Truncated ≡ Ok r = short.1 in cc)
      | inr here ↦
          let same : drop b.0.0 b.0.1 ≡ r.rest =
          ap (λ (y : TlvData). y.rest) (ok-is made r here.1) in
          omega (
            arith,
            ap length same,
            length-drop b.0.0 b.0.1,
            tag-shorter octets a.0 a.1,
            length-shorter a.0.1 b.0 b.1,
          )
    ]

-- ---- how many values may be read says nothing where it is enough

none-left : (most : ℕ) → values_within most [] ≡ Some []
unfolding values_within
none-left zero = refl
none-left (suc most) = refl

same-front : (n m : ℕ) (t : Result TlvData BerFault)
    → ((r : TlvData) → t ≡ Ok r → values_within n r.rest ≡ values_within m r.rest)
    → with_value_first t (values_within n) ≡ with_value_first t (values_within m)
same-front n m (Ok r) same = ap (prepend_values (part_of_tlv r ∷ [])) (same r refl)
same-front n m (Err fault) same = refl

enough : (n m : ℕ) (octets : List ℕ) → length octets ≤ n → length octets ≤ m
    → values_within n octets ≡ values_within m octets
unfolding values_within
enough n m [] a b = none-left n ∙ sym (none-left m)
enough zero m (octet ∷ octets) a b = absurd (omega arith)
enough (suc n) zero (octet ∷ octets) a b = absurd (omega arith)
enough (suc n) (suc m) (octet ∷ octets) a b =
    same-front n m (tlv_at (octet ∷ octets))
    (λ r e. let s = tlv-shorter (octet ∷ octets) r e in
    enough n m r.rest (omega arith) (omega arith))

-- ---- one value more

pub no-values : values_in [] ≡ Some []
unfolding values_in
no-values = none-left 0

pub values-step : (octets : List ℕ) (r : TlvData) → (octets ≡ [] → ⊥) → tlv_at octets ≡ Ok r
    → values_in octets ≡ prepend_values (part_of_tlv r ∷ []) (values_in r.rest)
unfolding values_in values_within
values-step [] r some e = absurd (some refl)
values-step (octet ∷ octets) r some e =
    let s = tlv-shorter (octet ∷ octets) r e in
    rw e (ap (prepend_values (part_of_tlv r ∷ []))
    (enough (length octets) (length r.rest) r.rest (omega arith) (omega arith)))

pub values-stop : (octets : List ℕ) (fault : BerFault) → (octets ≡ [] → ⊥)
    → tlv_at octets ≡ Err fault → values_in octets ≡ None
unfolding values_in values_within
values-stop [] fault some e = absurd (some refl)
values-stop (octet ∷ octets) fault some e = rw e refl

-- ---- the function is the relation

onto-some : (front : List Part) (o : Option (List Part)) (parts : List Part)
    → prepend_values front o ≡ Some parts
    → (later : List Part) × (o ≡ Some later) × (parts ≡ front ++ later)
onto-some front None parts e = absurd cc
onto-some front (Some later) parts e =
    (later, refl, let same : front ++ later ≡ parts = cc in sym same)

rest-bytes : (octets front rest : List ℕ) → octets ≡ front ++ rest → IsBytes octets → IsBytes rest
rest-bytes octets front rest parts fits i =
    let at : get_or octets (length front + i) 0 ≡ get_or rest i 0 =
    ap (λ (xs : List ℕ). get_or xs (length front + i) 0) parts
    ∙ get_or-append_right front rest (length front + i) 0 (omega arith)
    ∙ ap (λ (k : ℕ). get_or rest k 0) (omega arith) in
    omega (arith, fits (length front + i), at)

front-takes : (octets : List ℕ) (most : ℕ) (t : Result TlvData BerFault) (parts : List Part)
    → tlv_at octets ≡ t → IsBytes octets → with_value_first t (values_within most) ≡ Some parts
    → ((r : TlvData) (later : List Part) → IsBytes r.rest → values_within most r.rest ≡ Some later
    → SpellAll r.rest later) → SpellAll octets parts
front-takes octets most (Err fault) parts read fits e more = absurd cc
front-takes octets most (Ok r) parts read fits e more =
    let b = tlv-takes octets r fits read in
    let s = onto-some (part_of_tlv r ∷ []) (values_within most r.rest) parts e in
    let whole : SpellAll octets (part_of_tlv r ∷ s.0) = (
      b.front,
      r.rest,
      b.parts,
      b.spelled,
      more r s.0 (rest-bytes octets b.front r.rest b.parts fits) s.1,
    ) in
    subst (SpellAll octets) (sym s.2) whole

within-takes : (most : ℕ) (octets : List ℕ) (parts : List Part) → IsBytes octets
    → values_within most octets ≡ Some parts → SpellAll octets parts
unfolding values_within
within-takes zero [] [] fits e = refl
within-takes (suc most) [] [] fits e = refl
within-takes (suc most) (octet ∷ octets) parts fits e =
    front-takes (octet ∷ octets) most (tlv_at (octet ∷ octets)) parts refl fits e
    (λ r later. within-takes most r.rest later)
within-takes most octets parts fits e = absurd cc

pub values-take : (octets : List ℕ) (parts : List Part) → IsBytes octets
    → values_in octets ≡ Some parts → SpellAll octets parts
unfolding values_in
values-take octets parts = within-takes (length octets) octets parts

pub values-again : (octets : List ℕ) (parts : List Part) → SpellAll octets parts
    → values_in octets ≡ Some parts
values-again octets [] is = ap values_in is ∙ no-values
values-again octets (part ∷ parts) is =
    let r : TlvData = record { tag = part.tag; content = part.content; rest = is.1 } in
    let e : tlv_at octets ≡ Ok r =
    tlv-again octets r (record { front = is.0; spelled = is.3; parts = is.2 }) in
    let some : octets ≡ [] → ⊥ = λ none. let s =
    tlv-shorter octets r e in let z : length octets ≡ 0 = ap length none in omega arith in
    values-step octets r some e ∙ ap (prepend_values (part ∷ [])) (values-again is.1 parts is.4)

-- ---- the one value, and few

pub tlv-some : (octets : List ℕ) (r : TlvData) → tlv_at octets ≡ Ok r → octets ≡ [] → ⊥
tlv-some octets r e none = let s = tlv-shorter octets r e in let z : length octets ≡ 0 =
    ap length none in omega arith

pub one-is : (octets : List ℕ) (r : TlvData) → tlv_at octets ≡ Ok r → r.rest ≡ []
    → value_in octets ≡ Some (part_of_tlv r)
one-is octets r e none =
    ap (λ (o : Option (List Part)). o >>= only_one)
    (values-step octets r (tlv-some octets r e) e
    ∙ ap (λ (xs : List ℕ). prepend_values (part_of_tlv r ∷ []) (values_in xs)) none
    ∙ ap (prepend_values (part_of_tlv r ∷ [])) no-values)

not-one : (part : Part) (o : Option (List Part)) → (o ≡ Some [] → ⊥)
    → (prepend_values (part ∷ []) o >>= only_one) ≡ None
not-one part None some = refl
not-one part (Some []) some = absurd (some refl)
not-one part (Some (next ∷ later)) some = refl

values-some : (octets : List ℕ) (t : Result TlvData BerFault) → tlv_at octets ≡ t
    → (octets ≡ [] → ⊥) → values_in octets ≡ Some [] → ⊥
values-some octets (Ok r) read some e = let s =
    onto-some (part_of_tlv r ∷ []) (values_in r.rest) [] (sym (values-step octets r some read) ∙ e)
    in
    let same : [] ≡ part_of_tlv r ∷ s.0 = s.2 in cc
values-some octets (Err fault) read some e = let n : values_in octets ≡ None =
    values-stop octets fault some read in cc

pub one-more : (octets : List ℕ) (r : TlvData) → tlv_at octets ≡ Ok r → (r.rest ≡ [] → ⊥)
    → value_in octets ≡ None
one-more octets r e more =
    ap (λ (o : Option (List Part)). o >>= only_one) (values-step octets r (tlv-some octets r e) e)
    ∙ not-one (part_of_tlv r) (values_in r.rest) (values-some r.rest (tlv_at r.rest) refl more)

pub one-stop : (octets : List ℕ) (fault : BerFault) → tlv_at octets ≡ Err fault
    → value_in octets ≡ None
one-stop [] fault e = ap (λ (o : Option (List Part)). o >>= only_one) no-values
one-stop (octet ∷ octets) fault e =
    ap (λ (o : Option (List Part)). o >>= only_one)
    (values-stop (octet ∷ octets) fault (λ (none : (octet ∷ octets) ≡ []). cc) e)

pub is-nothing : (octets : List ℕ) → true ≡ eqb (length octets) 0 → octets ≡ []
is-nothing [] none = refl
is-nothing (octet ∷ octets) none =
    absurd (let z : length (octet ∷ octets) ≡ 0 = eqb-true _ _ (sym none) in omega arith)

pub nothing-more : (octets : List ℕ) → true ≡ eqb (length octets) 0 → values_in octets ≡ Some []
nothing-more octets none = ap values_in (is-nothing octets none) ∙ no-values

-- ---- values read in turn

-- Values at the front were read as done, and those of the rest are to be read.
pub record Passed {B : Type 0} (f : Part → Option B) (whole rest : List ℕ) (done : List B)
    : Type 0 where
  pub front : List Part
  pub read : values_in whole ≡ prepend_values front (values_in rest)
  pub each : read_each f front ≡ Some done

pub onto-nil : (o : Option (List Part)) → o ≡ prepend_values [] o
onto-nil None = refl
onto-nil (Some parts) = refl

pub passed-first : {B : Type 0} (f : Part → Option B) (whole : List ℕ) → Passed f whole whole []
passed-first f whole = record { front = []; read = onto-nil (values_in whole); each = refl }

pub onto-onto : (front : List Part) (part : Part) (o : Option (List Part))
    → prepend_values front (prepend_values (part ∷ []) o) ≡ prepend_values (front ++ part ∷ []) o
onto-onto front part None = refl
onto-onto front part (Some parts) = ap Some (sym (append_assoc front (part ∷ []) parts))

pub bind-some : {A B : Type 0} (o : Option A) (f : A → Option B) (y : B) → (o >>= f) ≡ Some y
    → (x : A) × (o ≡ Some x) × (f x ≡ Some y)
bind-some None f y e = absurd cc
bind-some (Some x) f y e = (x, refl, e)

all-more : {B : Type 0} (f : Part → Option B) (front : List Part) (part : Part) (xs : List B)
    (x : B) → read_each f front ≡ Some xs → f part ≡ Some x
    → read_each f (front ++ part ∷ []) ≡ Some (xs ++ x ∷ [])
all-more {B = B} f [] part xs x each here =
    ap (λ (o : Option B). o >>= λ y. Some (y ∷ [])) here
    ∙ ap (λ (ys : List B). Some (ys ++ x ∷ [])) (same_Some [] xs each)
all-more {B = B} f (first ∷ front) part xs x each here =
    let a = bind-some (f first) (λ y. read_each f front >>= λ ys. Some (y ∷ ys)) xs each in
    let b = bind-some (read_each f front) (λ ys. Some (a.0 ∷ ys)) xs a.2 in
    ap (λ (o : Option B). o >>= λ y. read_each f (front ++ part ∷ []) >>= λ ys. Some (y ∷ ys)) a.1
    ∙ ap (λ (o : Option (List B)). o >>= λ ys. Some (a.0 ∷ ys))
    (all-more f front part b.0 x b.1 here)
    ∙ ap (λ (ys : List B). Some (ys ++ x ∷ [])) (same_Some (a.0 ∷ b.0) xs b.2)

bind-none : {B : Type 0} (o : Option B) (r : Option (List B)) → r ≡ None
    → (o >>= λ y. r >>= λ ys. Some (y ∷ ys)) ≡ None
bind-none None r e = refl
bind-none (Some y) r e = rw e refl

all_bad : {B : Type 0} (f : Part → Option B) (front : List Part) (part : Part) (later : List Part)
    → f part ≡ None → read_each f (front ++ part ∷ later) ≡ None
all_bad f [] part later bad = rw bad refl
all_bad f (first ∷ front) part later bad =
    bind-none (f first) (read_each f (front ++ part ∷ later)) (all_bad f front part later bad)

pub passed-more : {B : Type 0} (f : Part → Option B) (whole rest new : List ℕ) (done : List B)
    (part : Part) (x : B) → Passed f whole rest done
    → values_in rest ≡ prepend_values (part ∷ []) (values_in new) → f part ≡ Some x
    → Passed f whole new (done ++ x ∷ [])
passed-more f whole rest new done part x p step here = record {
  front = p.front ++ part ∷ [];
  read = p.read ∙ ap (prepend_values p.front) step ∙ onto-onto p.front part (values_in new);
  each = all-more f p.front part done x p.each here;
}

pub passed-end : {B : Type 0} (f : Part → Option B) (whole rest : List ℕ) (done : List B)
    → Passed f whole rest done → values_in rest ≡ Some [] → each_in f whole ≡ Some done
passed-end f whole rest done p last =
    let read : values_in whole ≡ Some (p.front ++ []) = p.read ∙ ap (prepend_values p.front) last in
    ap (λ (o : Option (List Part)). o >>= read_each f) read ∙ ap (read_each f) (append-nil p.front)
    ∙ p.each

bad-at : {B : Type 0} (f : Part → Option B) (front : List Part) (part : Part)
    (o : Option (List Part)) → f part ≡ None
    → (prepend_values front (prepend_values (part ∷ []) o) >>= read_each f) ≡ None
bad-at f front part None bad = refl
bad-at f front part (Some later) bad = all_bad f front part later bad

pub passed-bad : {B : Type 0} (f : Part → Option B) (whole rest new : List ℕ) (done : List B)
    (part : Part) → Passed f whole rest done
    → values_in rest ≡ prepend_values (part ∷ []) (values_in new)
    → f part ≡ None → each_in f whole ≡ None
passed-bad f whole rest new done part p step bad =
    ap (λ (o : Option (List Part)). o >>= read_each f) (p.read ∙ ap (prepend_values p.front) step)
    ∙ bad-at f p.front part (values_in new) bad

pub passed-stop : {B : Type 0} (f : Part → Option B) (whole rest : List ℕ) (done : List B)
    → Passed f whole rest done → values_in rest ≡ None → each_in f whole ≡ None
passed-stop f whole rest done p stop =
    ap (λ (o : Option (List Part)). o >>= read_each f) (p.read ∙ ap (prepend_values p.front) stop)

-- ---- few values

-- values at the front, as they are
pub record Stored (whole rest : List ℕ) (front : List Part) : Type 0 where
  pub read : values_in whole ≡ prepend_values front (values_in rest)
  pub few : length front ≤ 5

pub stored-first : (whole : List ℕ) → Stored whole whole []
stored-first whole = record { read = onto-nil (values_in whole); few = omega arith }

pub stored-more : (whole rest new : List ℕ) (front more : List Part) (part : Part)
    → Stored whole rest front → values_in rest ≡ prepend_values (part ∷ []) (values_in new)
    → more ≡ front ++ part ∷ [] → length front < 5 → Stored whole new more
stored-more whole rest new front more part p step is room = record {
  read = p.read ∙ ap (prepend_values front) step ∙ onto-onto front part (values_in new)
      ∙ ap (λ (xs : List Part). prepend_values xs (values_in new)) (sym is);
  few = omega (arith, ap length is, length-append front (part ∷ []));
}

pub stored-end : (whole rest : List ℕ) (front : List Part) → Stored whole rest front
    → values_in rest ≡ Some [] → few_in whole ≡ Some front
stored-end whole rest front p last =
    let read : values_in whole ≡ Some (front ++ []) = p.read ∙ ap (prepend_values front) last in
    let short : ltb (length front) 6 ≡ true = lt-ltb _ _ (let f = p.few in omega arith) in
    ap (λ (o : Option (List Part)). o >>= at_most_five) read ∙ ap at_most_five (append-nil front)
    ∙ rw short refl

full-at : (front : List Part) (part : Part) (o : Option (List Part)) → 5 ≤ length front
    → (prepend_values front (prepend_values (part ∷ []) o) >>= at_most_five) ≡ None
full-at front part None full = refl
full-at front part (Some later) full =
    let long : ltb (length (front ++ part ∷ later)) 6 ≡ false =
    le-ltb _ _ (omega (arith, length-append front (part ∷ later))) in
    rw long refl

pub stored-full : (whole rest new : List ℕ) (front : List Part) (part : Part)
    → Stored whole rest front → values_in rest ≡ prepend_values (part ∷ []) (values_in new)
    → 5 ≤ length front
    → few_in whole ≡ None
stored-full whole rest new front part p step full =
    ap (λ (o : Option (List Part)). o >>= at_most_five) (p.read ∙ ap (prepend_values front) step)
    ∙ full-at front part (values_in new) full

pub stored-stop : (whole rest : List ℕ) (front : List Part) → Stored whole rest front
    → values_in rest ≡ None → few_in whole ≡ None
stored-stop whole rest front p stop =
    ap (λ (o : Option (List Part)). o >>= at_most_five) (p.read ∙ ap (prepend_values front) stop)

pub is_full : (values : List Value) (count : ℕ) (now : List Part)
    → map part_of (take count values) ≡ now → length values ≡ 5 → count ≡ 5 → 5 ≤ length now
is_full values count now view size full =
    omega (arith, ap length view, length-map (take count values) part_of, length-take count values)

-- a value that is set behind those that count is one part more
pub pushed : (values : List Value) (count : ℕ) (value : Value) (now : List Part)
    → map part_of (take count values) ≡ now → length values ≡ 5 → count < 5
    → (map part_of (take (count + 1) (set values count value)) ≡ now ++ part_of value ∷ [])
    × (length now + 1 ≤ 5)
pushed values count value now view size room = (
  ap (map part_of) (take_more_set values count value (omega arith))
      ∙ map-append part_of (take count values) (value ∷ [])
      ∙ ap (λ (parts : List Part). parts ++ part_of value ∷ []) view,
  omega (
    arith,
    ap length view,
    length-map (take count values) part_of,
    length-take count values,
  ),
)
