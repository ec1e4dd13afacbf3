-- What is known in a case that allows one process alone is what that process shows.
use Rattle.std.proofs.Common.{◌≡◌, ◌⊎◌, inl, inr, ℕ, Bool, true, false, not, ◌&&◌, ◌||◌, refl, sym, subst, Option, None, Some}
use Rattle.std.proofs.lemmas.Bool.{and_parts}
use Rattle.bay_base.specs.declared.position.Dbpos.{Dbpos}
use Rattle.bay_base.specs.declared.position.Dbpos.TheVariants.{Intermediate, Off, On, Bad}
use Rattle.bay_diagram.specs.declared.network.Device.{Device}
use Rattle.bay_diagram.specs.declared.network.Device.TheVariants.{Own, Other}
use Rattle.bay_diagram.specs.Hazards.{is_hazard}
use Rattle.bay_diagram.specs.Laws.{HazardsAreExact}
use Rattle.bay_diagram.specs.Reading.{Allowed, IsOnly, IsWorse, best_of, is_closed, is_open, may_be_closed, may_be_neither, may_be_open, may_have_value, reading_of, is_true_input, worst_of}
use Rattle.bay_base.specs.Positions.{same_position}
use Rattle.bay_audit_rules.specs.Process.{Process}
use Rattle.bay_diagram.proofs.GrowthLemmas.{hazards-grow}
use Rattle.bay_diagram.proofs.ReadingLemmas.{best-bounds, worst-bounds}

-- ---- truth values

or-true : (x y : Bool) → (x || y) ≡ true → (x ≡ true) ⊎ (y ≡ true)
or-true true y h = inl refl
or-true false y h = inr h

no-yes : false ≡ true → ⊥
no-yes h = cc

not-of-false : (x : Bool) → x ≡ false → not x ≡ true
not-of-false true h = cc
not-of-false false h = refl

contrapose : (a b : Bool) → (a ≡ true → b ≡ true) → not b ≡ true → not a ≡ true
contrapose true true f h = cc
contrapose true false f h = absurd (no-yes (f refl))
contrapose false b f h = refl

left-false : (a b : Bool) → (a || b) ≡ false → not a ≡ true
left-false true b h = cc
left-false false b h = refl

-- ---- of an input

module _ (a : Allowed) (p : Process) (only : IsOnly a p) where
  says-true : (i : Option ℕ) → may_have_value a i true ≡ true → is_true_input p i ≡ true
  says-true None h = cc
  says-true (Some k) h = only.inputs k true h

  says-false : (i : Option ℕ) → may_have_value a i false ≡ true → not (is_true_input p i) ≡ true
  says-false None h = refl
  says-false (Some k) h = not-of-false (p.input k) (only.inputs k false h)

-- ---- of a switch of another bay

both-of : (a b c d : Bool) → (a ≡ true → c ≡ true) → (b ≡ true → d ≡ true)
    → (a && b) ≡ true → (c && d) ≡ true
both-of true true c d f g h = rw (f refl, g refl) refl
both-of true false c d f g h = cc
both-of false b c d f g h = cc

neither-from : (c o ct ot cf og : Bool) → (ct ≡ true → c ≡ true) → (ot ≡ true → o ≡ true)
    → (cf ≡ true → not c ≡ true) → (og ≡ true → not o ≡ true)
    → (ct && ot || cf && og) ≡ true → (o && not c || c && not o) ≡ false
neither-from true true ct ot cf og f g k l h = refl
neither-from false false ct ot cf og f g k l h = refl
neither-from true false ct ot cf og f g k l h =
    absurd (elim (or-true (ct && ot) (cf && og) h) [
      | inl t ↦ no-yes (g (and_parts ct ot t).1)
      | inr t ↦ no-yes (k (and_parts cf og t).0)
    ])
neither-from false true ct ot cf og f g k l h =
    absurd (elim (or-true (ct && ot) (cf && og) h) [
      | inl t ↦ no-yes (f (and_parts ct ot t).0)
      | inr t ↦ no-yes (l (and_parts cf og t).1)
    ])

-- ---- of a switch of the bay

own-neither-only : (a : Dbpos → Bool) (q : Dbpos) → ((x : Dbpos) → a x ≡ true → q ≡ x)
    → (a Intermediate || a Bad) ≡ true → (same_position q Off || same_position q On) ≡ false
own-neither-only a q only h =
    elim (or-true (a Intermediate) (a Bad) h) [
      | inl t ↦ subst (λ (x : Dbpos). (same_position x Off || same_position x On) ≡ false)
          (sym (only Intermediate t)) refl
      | inr t ↦ subst (λ (x : Dbpos). (same_position x Off || same_position x On) ≡ false)
          (sym (only Bad t)) refl
    ]

-- a switch that is known to be closed is not known to be open
one-position : (q : Dbpos) → same_position q On ≡ true → same_position q Off ≡ false
one-position Intermediate h = refl
one-position Off h = cc
one-position On h = refl
one-position Bad h = refl

one-input : (c o : Bool) → (c && not o) ≡ true → (o && not c) ≡ false
one-input true true h = refl
one-input true false h = refl
one-input false o h = cc

-- ---- of a switch

closed-apart : (p : Process) (d : Device) → is_closed p d ≡ true → is_open p d ≡ false
closed-apart p (Own k) h = one-position (p.position k) h
closed-apart p (Other closed opened) h =
    one-input (is_true_input p closed) (is_true_input p opened) h

module _ (a : Allowed) (p : Process) (only : IsOnly a p) where
  open-only : (d : Device) → may_be_open a d ≡ true → is_open p d ≡ true
  open-only (Own k) h =
      subst (λ (x : Dbpos). same_position x Off ≡ true) (sym (only.positions k Off h)) refl
  open-only (Other closed opened) h =
      both-of (may_have_value a opened true) (may_have_value a closed false)
      (is_true_input p opened)
      (not (is_true_input p closed)) (says-true a p only opened) (says-false a p only closed) h

  closed-only : (d : Device) → may_be_closed a d ≡ true → is_closed p d ≡ true
  closed-only (Own k) h =
      subst (λ (x : Dbpos). same_position x On ≡ true) (sym (only.positions k On h)) refl
  closed-only (Other closed opened) h =
      both-of (may_have_value a closed true) (may_have_value a opened false)
      (is_true_input p closed)
      (not (is_true_input p opened)) (says-true a p only closed) (says-false a p only opened) h

  neither-only : (d : Device) → may_be_neither a d ≡ true
      → (is_open p d || is_closed p d) ≡ false
  neither-only (Own k) h =
      own-neither-only (a.position k) (p.position k) (only.positions k) h
  neither-only (Other closed opened) h =
      neither-from (is_true_input p closed) (is_true_input p opened) (may_have_value a closed true)
      (may_have_value a opened true)
      (may_have_value a closed false) (may_have_value a opened false)
      (says-true a p only closed) (says-true a p only opened)
      (says-false a p only closed) (says-false a p only opened) h

-- ---- the two bounds

may-exact : (c n po pc : Bool) → (c ≡ true → pc ≡ true) → (pc ≡ true → po ≡ false)
    → (n ≡ true → (po || pc) ≡ false) → (c || n) ≡ true → not po ≡ true
may-exact true n po pc f g k h = not-of-false po (g (f refl))
may-exact false n po pc f g k h = left-false po pc (k h)

sure-exact : (o n po pc : Bool) → (o ≡ true → po ≡ true) → (pc ≡ true → po ≡ false)
    → (n ≡ true → (po || pc) ≡ false) → pc ≡ true → not (o || n) ≡ true
sure-exact false false po pc f g k h = refl
sure-exact true n true pc f g k h = cc (g h)
sure-exact true n false pc f g k h = absurd (no-yes (f refl))
sure-exact false true true pc f g k h = cc (k refl)
sure-exact false true false true f g k h = cc (k refl)
sure-exact false true false false f g k h = cc

or-both : (a b c d : Bool) → (a ≡ true → c ≡ true) → (b ≡ true → d ≡ true)
    → (a || b) ≡ true → (c || d) ≡ true
or-both true b true d f g h = refl
or-both true b false d f g h = absurd (no-yes (f refl))
or-both false b true d f g h = refl
or-both false b false d f g h = g h

worst-exact : (a : Allowed) (p : Process) → IsOnly a p → IsWorse (worst_of a) (reading_of p)
worst-exact a p only = record {
  may_conduct =
      λ d. may-exact (may_be_closed a d) (may_be_neither a d) (is_open p d) (is_closed p d)
      (closed-only a p only d) (closed-apart p d) (neither-only a p only d);
  conducts = λ d. sure-exact (may_be_open a d) (may_be_neither a d) (is_open p d) (is_closed p d)
      (open-only a p only d) (closed-apart p d) (neither-only a p only d);
  may_move = λ d h. not-of-false (is_open p d || is_closed p d) (neither-only a p only d h);
  may_be_false = λ i. says-false a p only i;
}

best-exact : (a : Allowed) (p : Process) → IsOnly a p → IsWorse (reading_of p) (best_of a)
best-exact a p only = record {
  may_conduct = λ d. contrapose (may_be_open a d) (is_open p d) (open-only a p only d);
  conducts = λ d. closed-only a p only d;
  may_move = λ d. contrapose (may_be_open a d || may_be_closed a d) (is_open p d || is_closed p d)
      (or-both (may_be_open a d) (may_be_closed a d) (is_open p d) (is_closed p d)
      (open-only a p only d) (closed-only a p only d));
  may_be_false =
      λ i. contrapose (may_have_value a i true) (is_true_input p i) (says-true a p only i);
}

same-truth : (x y : Bool) → (x ≡ true → y ≡ true) → (y ≡ true → x ≡ true) → x ≡ y
same-truth true y f g = sym (f refl)
same-truth false true f g = g refl
same-truth false false f g = refl

pub hazards-are-exact : HazardsAreExact
hazards-are-exact net a p is only k operation = record {
  worst = same-truth (is_hazard net (worst_of a) k operation)
      (is_hazard net (reading_of p) k operation)
      (hazards-grow net _ _ (worst-exact a p only) k operation)
      (hazards-grow net _ _ (worst-bounds a p is) k operation);
  best = same-truth (is_hazard net (best_of a) k operation)
      (is_hazard net (reading_of p) k operation)
      (hazards-grow net _ _ (best-bounds a p is) k operation)
      (hazards-grow net _ _ (best-exact a p only) k operation);
}
