-- The units that octets are (X.225 8.2): what is read of them is what they spell, and they are read
-- in turn.
use Rattle.std.proofs.Common.{◌≡◌, ◌≢◌, ℕ, zero, suc, ◌+◌, ◌*◌, ◌<◌, ◌≤◌, Bool, true, false, cond, eqb, ltb, List, [], ◌∷◌, ◌++◌, length, filter, take, drop, Option, Some, None, option_map, refl, sym, ap, subst, ◌∙◌, append_assoc, take-append-drop, length-take, arith}
use Rattle.std.proofs.lemmas.Option.{same_Some}
use Rattle.std.proofs.lemmas.Bool.{eq-eqb, ne_eqb, eqb-true, le-ltb, ltb-false}
use Rattle.std.proofs.lemmas.List.{length-append, take_at, drop_at, append-nil}
use Rattle.std.proofs.lemmas.List.Elements.{filter-append}
use Rattle.bay_ber.proofs.BackLemmas.{bind-some, unguarded}
use Rattle.bay_ber.proofs.FormLemmas.{ExactIn}
use Rattle.bay_assoc.specs.Session.{Unit, long_size, size_at, content_at, unit_at, prepend_units, with_unit_first, units_within, units_in, IsSize, BeginsWithUnit, SpellUnits, units, is_user_data, UserDataView, missing, user_data_of, parameters}
use Rattle.bay_assoc.specs.SessionReading.{user_data_with, user_data_with_unit}

-- ---- one unit

-- Numbers that a test tells apart differ.
pub differs : (a b : ℕ) → eqb a b ≡ false → a ≢ b
differs a b s same =
    let yes = eq-eqb a b same in
    let no : true ≡ false = sym yes ∙ s in absurd cc

size-again : (size : List ℕ) (n : ℕ) (rest : List ℕ) → IsSize size n
    → size_at (size ++ rest) ≡ Some (n, rest)
unfolding size_at
size-again (first ∷ []) n rest is =
    let other : eqb first 255 ≡ false = ne_eqb first 255 is.0 in
    rw other (ap (λ (m : ℕ). Some (m, rest)) (sym is.1))
size-again (first ∷ high ∷ low ∷ []) n rest is =
    let yes : eqb first 255 ≡ true = eq-eqb first 255 is.0 in
    rw yes (ap (λ (m : ℕ). Some (m, rest)) (sym is.1))
size-again size n rest is = absurd is

counted-again : (size content rest : List ℕ) → IsSize size (length content)
    → content_at (size ++ (content ++ rest)) ≡ Some (content, rest)
unfolding content_at
counted-again size content rest is =
    let enough : ltb (length (content ++ rest)) (length content) ≡ false =
    le-ltb _ _ (omega (arith, length-append content rest)) in
    let front : take (length content) (content ++ rest) ≡ content =
    take_at content rest (length content) refl in
    let behind : drop (length content) (content ++ rest) ≡ rest =
    drop_at content rest (length content) refl in
    rw (size-again size (length content) (content ++ rest) is, enough, front, behind) refl

pub unit-again : (octets : List ℕ) (u : Unit) (rest : List ℕ) → BeginsWithUnit octets u rest
    → unit_at octets ≡ Some (u, rest)
unfolding unit_at
unit-again octets u rest is = rw (is.is, counted-again is.size u.content rest is.sized) refl

record Sized (octets rest : List ℕ) (n : ℕ) : Type 0 where
  size : List ℕ
  is : octets ≡ size ++ rest
  sized : IsSize size n

long-back : (octets : List ℕ) (x : ℕ × List ℕ) → long_size octets ≡ Some x
    → Sized (255 ∷ octets) x.1 x.0
long-back (high ∷ low ∷ octets) x e =
    let made : ℕ × List ℕ = (high * 256 + low, octets) in
    let same : made ≡ x = same_Some made x e in
    subst (λ (y : ℕ × List ℕ). Sized (255 ∷ high ∷ low ∷ octets) y.1 y.0) {x = made} same
    (record { size = 255 ∷ high ∷ low ∷ []; is = refl; sized = (refl, refl) })
long-back octets x e = absurd cc

size-case : (first : ℕ) (octets : List ℕ) (x : ℕ × List ℕ) (b : Bool) → eqb first 255 ≡ b
    → cond b (long_size octets) (Some (first, octets)) ≡ Some x → Sized (first ∷ octets) x.1 x.0
size-case first octets x true is e =
    subst (λ (n : ℕ). Sized (n ∷ octets) x.1 x.0) (sym (eqb-true first 255 is))
    (long-back octets x e)
size-case first octets x false is e =
    let made : ℕ × List ℕ = (first, octets) in
    let same : made ≡ x = same_Some made x e in
    subst (λ (y : ℕ × List ℕ). Sized (first ∷ octets) y.1 y.0) {x = made} same
    (record { size = first ∷ []; is = refl; sized = (differs first 255 is, refl) })

size-back : (octets : List ℕ) (x : ℕ × List ℕ) → size_at octets ≡ Some x → Sized octets x.1 x.0
unfolding size_at
size-back [] x e = absurd cc
size-back (first ∷ octets) x e = size-case first octets x (eqb first 255) refl e

-- The octets are a length, so many octets, and the rest.
record Counted (octets content rest : List ℕ) : Type 0 where
  size : List ℕ
  is : octets ≡ size ++ (content ++ rest)
  sized : IsSize size (length content)

counted-back : (octets : List ℕ) (x : List ℕ × List ℕ) → content_at octets ≡ Some x
    → Counted octets x.0 x.1
unfolding content_at
counted-back octets x e =
    let s = bind-some (size_at octets) _ x e in
    let n = s.0.0 in
    let behind = s.0.1 in
    let made : List ℕ × List ℕ = (take n behind, drop n behind) in
    let g = unguarded (ltb (length behind) n) (Some made) x s.2 in
    let enough = ltb-false (length behind) n g.0 in
    let z = size-back octets s.0 s.1 in
    let long : length (take n behind) ≡ n = omega (arith, length-take n behind, enough) in
    let same : made ≡ x = same_Some made x g.1 in
    subst (λ (y : List ℕ × List ℕ). Counted octets y.0 y.1) {x = made} same (record {
      size = z.size;
      is = z.is ∙ ap (λ (l : List ℕ). z.size ++ l) (sym (take-append-drop n behind));
      sized = subst (IsSize z.size) (sym long) z.sized;
    })

pub unit-back : (octets : List ℕ) (x : Unit × List ℕ) → unit_at octets ≡ Some x
    → BeginsWithUnit octets x.0 x.1
unfolding unit_at
unit-back [] x e = absurd cc
unit-back (identifier ∷ octets) x e =
    let c = bind-some (content_at octets) _ x e in
    let made : Unit × List ℕ = (record { identifier = identifier; content = c.0.0 }, c.0.1) in
    let same : made ≡ x = same_Some made x c.2 in
    let k = counted-back octets c.0 c.1 in
    subst (λ (y : Unit × List ℕ). BeginsWithUnit (identifier ∷ octets) y.0 y.1) {x = made} same
    (record {
      size = k.size;
      is = ap (λ (l : List ℕ). identifier ∷ l) k.is;
      sized = k.sized;
    })

unit-shorter : (octets : List ℕ) (x : Unit × List ℕ) → unit_at octets ≡ Some x
    → length x.1 < length octets
unit-shorter octets x e =
    let r = unit-back octets x e in
    omega (
      arith,
      ap length r.is,
      length-append r.size (x.0.content ++ x.1),
      length-append x.0.content x.1,
    )

-- ---- how many units may be read says nothing where it is enough

none-left : (most : ℕ) → units_within most [] ≡ Some []
unfolding units_within
none-left zero = refl
none-left (suc most) = refl

same-front : (n m : ℕ) (o : Option (Unit × List ℕ))
    → ((x : Unit × List ℕ) → o ≡ Some x → units_within n x.1 ≡ units_within m x.1)
    → with_unit_first o (units_within n) ≡ with_unit_first o (units_within m)
same-front n m (Some x) same = ap (prepend_units (x.0 ∷ [])) (same x refl)
same-front n m None same = refl

enough : (n m : ℕ) (octets : List ℕ) → length octets ≤ n → length octets ≤ m
    → units_within n octets ≡ units_within m octets
unfolding units_within
enough n m [] a b = none-left n ∙ sym (none-left m)
enough zero m (octet ∷ octets) a b = absurd (omega arith)
enough (suc n) zero (octet ∷ octets) a b = absurd (omega arith)
enough (suc n) (suc m) (octet ∷ octets) a b =
    same-front n m (unit_at (octet ∷ octets))
    (λ x e. let s = unit-shorter (octet ∷ octets) x e in enough n m x.1 (omega arith) (omega arith))

-- ---- one unit more

no-units : units_in [] ≡ Some []
unfolding units_in
no-units = none-left 0

pub units-step : (octets : List ℕ) (x : Unit × List ℕ) → unit_at octets ≡ Some x
    → units_in octets ≡ prepend_units (x.0 ∷ []) (units_in x.1)
unfolding units_in units_within unit_at
units-step [] x e = absurd cc
units-step (octet ∷ octets) x e =
    let s = unit-shorter (octet ∷ octets) x e in
    rw e (ap (prepend_units (x.0 ∷ []))
    (enough (length octets) (length x.1) x.1 (omega arith) (omega arith)))

pub units-stop : (octets : List ℕ) → false ≡ eqb (length octets) 0 → unit_at octets ≡ None
    → units_in octets ≡ None
unfolding units_in units_within
units-stop [] some e = absurd cc
units-stop (octet ∷ octets) some e = rw e refl

pub units-end : (octets : List ℕ) → true ≡ eqb (length octets) 0 → units_in octets ≡ Some []
units-end [] none = no-units
units-end (octet ∷ octets) none =
    absurd (let z : length (octet ∷ octets) ≡ 0 = eqb-true _ _ (sym none) in omega arith)

-- ---- all units

units-again : (octets : List ℕ) (us : List Unit) → SpellUnits octets us
    → units_in octets ≡ Some us
units-again octets [] is = ap units_in is ∙ no-units
units-again octets (u ∷ us) is =
    units-step octets (u, is.0) (unit-again octets u is.0 is.1)
    ∙ ap (prepend_units (u ∷ [])) (units-again is.0 us is.2)

onto-back : (front : List Unit) (o : Option (List Unit)) (us : List Unit)
    → prepend_units front o ≡ Some us
    → (later : List Unit) × (o ≡ Some later) × (us ≡ front ++ later)
onto-back front None us e = absurd cc
onto-back front (Some later) us e = (later, refl, sym (same_Some (front ++ later) us e))

units-within-back : (most : ℕ) (octets : List ℕ) (us : List Unit)
    → units_within most octets ≡ Some us → SpellUnits octets us
unfolding units_within
units-within-back most [] us e =
    subst (SpellUnits []) (same_Some [] us (sym (none-left most) ∙ e)) refl
units-within-back zero (octet ∷ octets) us e = absurd cc
units-within-back (suc most) (octet ∷ octets) us e =
    front-back (octet ∷ octets) us (unit_at (octet ∷ octets)) refl e
    (λ rest later f. units-within-back most rest later f)
  where
    front-back : (whole : List ℕ) (us : List Unit) (o : Option (Unit × List ℕ))
        → unit_at whole ≡ o → with_unit_first o (units_within most) ≡ Some us
        → ((rest : List ℕ) (later : List Unit) → units_within most rest ≡ Some later
        → SpellUnits rest later) → SpellUnits whole us
    front-back whole us None is e more = absurd cc
    front-back whole us (Some x) is e more =
        let later = onto-back (x.0 ∷ []) (units_within most x.1) us e in
        subst (SpellUnits whole) (sym later.2)
        (x.1, unit-back whole x is, more x.1 later.0 later.1)

units-back : (octets : List ℕ) (us : List Unit) → units_in octets ≡ Some us
    → SpellUnits octets us
unfolding units_in
units-back octets us e = units-within-back (length octets) octets us e

pub units-exact : ExactIn units
units-exact = record { read = units-again; back = λ o us b e. units-back o us e }

-- ---- user data

-- Units at the front were read, with such user data among them.
pub record Found (whole rest : List ℕ) (users : UserDataView) : Type 0 where
  pub front : List Unit
  pub read : units_in whole ≡ prepend_units front (units_in rest)
  pub is : users ≡ user_data_of (filter is_user_data front)

onto-nil : (o : Option (List Unit)) → o ≡ prepend_units [] o
onto-nil None = refl
onto-nil (Some us) = refl

onto-onto : (front : List Unit) (u : Unit) (o : Option (List Unit))
    → prepend_units front (prepend_units (u ∷ []) o) ≡ prepend_units (front ++ u ∷ []) o
onto-onto front u None = refl
onto-onto front u (Some us) = ap Some (sym (append_assoc front (u ∷ []) us))

pub found-first : (whole : List ℕ) → Found whole whole missing
found-first whole = record { front = []; read = onto-nil (units_in whole); is = refl }

users-more : (us : List Unit) (u : Unit)
    → user_data_of (us ++ u ∷ []) ≡ user_data_with (user_data_of us) u.content
users-more [] u = refl
users-more (v ∷ []) u = refl
users-more (v ∷ w ∷ us) u = refl

filter-more : (front : List Unit) (u : Unit) (b : Bool) → is_user_data u ≡ b
    → user_data_of (filter is_user_data (front ++ u ∷ []))
    ≡ cond b (user_data_with (user_data_of (filter is_user_data front)) u.content)
    (user_data_of (filter is_user_data front))
filter-more front u true e =
    ap user_data_of (filter-append is_user_data front (u ∷ [])
    ∙ ap (λ (us : List Unit). filter is_user_data front ++ us) (rw e refl))
    ∙ users-more (filter is_user_data front) u
filter-more front u false e =
    ap user_data_of (filter-append is_user_data front (u ∷ [])
    ∙ ap (λ (us : List Unit). filter is_user_data front ++ us) (rw e refl)
    ∙ append-nil (filter is_user_data front))

pub found-more : (whole rest new : List ℕ) (users more : UserDataView) (u : Unit)
    → Found whole rest users
    → units_in rest ≡ prepend_units (u ∷ []) (units_in new) → more ≡ user_data_with_unit users u
    → Found whole new more
found-more whole rest new users more u f step is = record {
  front = f.front ++ u ∷ [];
  read = f.read ∙ ap (prepend_units f.front) step ∙ onto-onto f.front u (units_in new);
  is = is ∙ ap (λ (us : UserDataView). user_data_with_unit us u) f.is
      ∙ sym (filter-more f.front u (is_user_data u) refl);
}

abbrev judged : Option (List Unit) → Option UserDataView
judged o = option_map (λ us. user_data_of (filter is_user_data us)) o

pub found-end : (whole rest : List ℕ) (users : UserDataView) → Found whole rest users
    → units_in rest ≡ Some [] → parameters.reads whole ≡ Some users
unfolding parameters
found-end whole rest users f last =
    ap judged (f.read ∙ ap (prepend_units f.front) last)
    ∙ ap (λ (us : List Unit). Some (user_data_of (filter is_user_data us))) (append-nil f.front)
    ∙ ap Some (sym f.is)

pub found-stop : (whole rest : List ℕ) (users : UserDataView) → Found whole rest users
    → units_in rest ≡ None → parameters.reads whole ≡ None
unfolding parameters
found-stop whole rest users f stop = ap judged (f.read ∙ ap (prepend_units f.front) stop)
