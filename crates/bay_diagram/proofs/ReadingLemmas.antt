-- What is known in a process of a case lies between the best and the worst of the case.
use Rattle.std.proofs.Common.{◌≡◌, ℕ, Bool, true, false, not, ◌&&◌, ◌||◌, refl, subst, Option, None, Some}
use Rattle.bay_base.specs.declared.position.Dbpos.{Dbpos}
use Rattle.bay_base.specs.declared.position.Dbpos.TheVariants.{Intermediate, Off, On, Bad}
use Rattle.bay_diagram.specs.declared.network.Device.{Device}
use Rattle.bay_diagram.specs.declared.network.Device.TheVariants.{Own, Other}
use Rattle.bay_diagram.specs.Reading.{Allowed, IsAllowed, IsWorse, ReadingsBound, best_of, is_closed, is_open, may_be_closed, may_be_neither, may_be_open, may_have_value, reading_of, is_true_input, worst_of}
use Rattle.bay_base.specs.Positions.{same_position}
use Rattle.bay_audit_rules.specs.Process.{Process}

-- ---- of a switch of the bay: the position p is allowed by a

own-open : (a : Dbpos → Bool) (p : Dbpos) → a p ≡ true → same_position p Off ≡ true → a Off ≡ true
own-open a Intermediate h is = cc
own-open a Off h is = h
own-open a On h is = cc
own-open a Bad h is = cc

own-closed : (a : Dbpos → Bool) (p : Dbpos) → a p ≡ true → same_position p On ≡ true
    → a On ≡ true
own-closed a Intermediate h is = cc
own-closed a Off h is = cc
own-closed a On h is = h
own-closed a Bad h is = cc

or-left : (a b : Bool) → a ≡ true → (a || b) ≡ true
or-left true b h = refl
or-left false b h = cc

or-right : (a b : Bool) → b ≡ true → (a || b) ≡ true
or-right true b h = refl
or-right false b h = h

own-neither : (a : Dbpos → Bool) (p : Dbpos) → a p ≡ true
    → (same_position p Off || same_position p On) ≡ false → (a Intermediate || a Bad) ≡ true
own-neither a Intermediate h is = or-left (a Intermediate) (a Bad) h
own-neither a Off h is = cc
own-neither a On h is = cc
own-neither a Bad h is = or-right (a Intermediate) (a Bad) h

-- ---- of a switch of another bay: what its inputs say is allowed

both-true : (a b c d : Bool) → (a ≡ true → c ≡ true) → (b ≡ true → d ≡ true)
    → (a && b) ≡ true → (c && d) ≡ true
both-true true true c d f g h = rw (f refl, g refl) refl
both-true true false c d f g h = cc
both-true false b c d f g h = cc

said-true : (a : Allowed) (p : Process) → IsAllowed a p → (i : Option ℕ)
    → is_true_input p i ≡ true → may_have_value a i true ≡ true
said-true a p is None h = cc
said-true a p is (Some k) h = subst (λ (v : Bool). a.input k v ≡ true) h (is.inputs k)

not-both : (x : Bool) → x ≡ true → not x ≡ true → ⊥
not-both true h g = cc
not-both false h g = cc

not-true : (x : Bool) → not x ≡ true → x ≡ false
not-true true h = cc
not-true false h = refl

said-false : (a : Allowed) (p : Process) → IsAllowed a p → (i : Option ℕ)
    → not (is_true_input p i) ≡ true → may_have_value a i false ≡ true
said-false a p is None h = refl
said-false a p is (Some k) h =
    subst (λ (v : Bool). a.input k v ≡ true) (not-true (p.input k) h) (is.inputs k)

neither-of : (c o ct cf ot og : Bool) → (c ≡ true → ct ≡ true) → (not c ≡ true → cf ≡ true)
    → (o ≡ true → ot ≡ true) → (not o ≡ true → og ≡ true)
    → (o && not c || c && not o) ≡ false → (ct && ot || cf && og) ≡ true
neither-of true true ct cf ot og f g h k is =
    or-left (ct && ot) (cf && og) (rw (f refl, h refl) refl)
neither-of true false ct cf ot og f g h k is = cc
neither-of false true ct cf ot og f g h k is = cc
neither-of false false ct cf ot og f g h k is =
    or-right (ct && ot) (cf && og) (rw (g refl, k refl) refl)

-- ---- a switch

open-allowed : (a : Allowed) (p : Process) → IsAllowed a p → (d : Device)
    → is_open p d ≡ true → may_be_open a d ≡ true
open-allowed a p is (Own k) h = own-open (a.position k) (p.position k) (is.positions k) h
open-allowed a p is (Other closed opened) h =
    both-true (is_true_input p opened) (not (is_true_input p closed)) (may_have_value a opened true)
    (may_have_value a closed false)
    (said-true a p is opened) (said-false a p is closed) h

closed-allowed : (a : Allowed) (p : Process) → IsAllowed a p → (d : Device)
    → is_closed p d ≡ true → may_be_closed a d ≡ true
closed-allowed a p is (Own k) h = own-closed (a.position k) (p.position k) (is.positions k) h
closed-allowed a p is (Other closed opened) h =
    both-true (is_true_input p closed) (not (is_true_input p opened)) (may_have_value a closed true)
    (may_have_value a opened false)
    (said-true a p is closed) (said-false a p is opened) h

neither-allowed : (a : Allowed) (p : Process) → IsAllowed a p → (d : Device)
    → (is_open p d || is_closed p d) ≡ false → may_be_neither a d ≡ true
neither-allowed a p is (Own k) h = own-neither (a.position k) (p.position k) (is.positions k) h
neither-allowed a p is (Other closed opened) h =
    neither-of (is_true_input p closed) (is_true_input p opened) (may_have_value a closed true)
    (may_have_value a closed false)
    (may_have_value a opened true) (may_have_value a opened false)
    (said-true a p is closed) (said-false a p is closed)
    (said-true a p is opened) (said-false a p is opened) h

-- ---- the two bounds, of three possibilities (o, c, n) and what is known (po, pc)

worst-may : (po pc c n : Bool) → (pc ≡ true → c ≡ true) → ((po || pc) ≡ false → n ≡ true)
    → not po ≡ true → (c || n) ≡ true
worst-may true pc c n f g h = cc
worst-may false true c n f g h = or-left c n (f refl)
worst-may false false c n f g h = or-right c n (g refl)

worst-sure : (po pc o n : Bool) → (po ≡ true → o ≡ true) → ((po || pc) ≡ false → n ≡ true)
    → not (o || n) ≡ true → pc ≡ true
worst-sure po true o n f g h = refl
worst-sure true false o n f g h =
    absurd (not-both (o || n) (or-left o n (f refl)) h)
worst-sure false false o n f g h =
    absurd (not-both (o || n) (or-right o n (g refl)) h)

worst-moves : (po pc n : Bool) → ((po || pc) ≡ false → n ≡ true)
    → not (po || pc) ≡ true → n ≡ true
worst-moves po pc n g h = g (not-true (po || pc) h)

best-may : (po o : Bool) → (po ≡ true → o ≡ true) → not o ≡ true → not po ≡ true
best-may true o f h = absurd (not-both o (f refl) h)
best-may false o f h = refl

best-moves : (po pc o c : Bool) → (po ≡ true → o ≡ true) → (pc ≡ true → c ≡ true)
    → not (o || c) ≡ true → not (po || pc) ≡ true
best-moves true pc o c f g h = absurd (not-both (o || c) (or-left o c (f refl)) h)
best-moves false true o c f g h = absurd (not-both (o || c) (or-right o c (g refl)) h)
best-moves false false o c f g h = refl

best-alive : (p a : Bool) → (p ≡ true → a ≡ true) → not a ≡ true → not p ≡ true
best-alive = best-may

pub worst-bounds : (a : Allowed) (p : Process) → IsAllowed a p
    → IsWorse (reading_of p) (worst_of a)
worst-bounds a p is = record {
  may_conduct =
      λ d. worst-may (is_open p d) (is_closed p d) (may_be_closed a d) (may_be_neither a d)
      (closed-allowed a p is d) (neither-allowed a p is d);
  conducts = λ d. worst-sure (is_open p d) (is_closed p d) (may_be_open a d) (may_be_neither a d)
      (open-allowed a p is d) (neither-allowed a p is d);
  may_move = λ d. worst-moves (is_open p d) (is_closed p d) (may_be_neither a d)
      (neither-allowed a p is d);
  may_be_false = λ i. said-false a p is i;
}

pub best-bounds : (a : Allowed) (p : Process) → IsAllowed a p
    → IsWorse (best_of a) (reading_of p)
best-bounds a p is = record {
  may_conduct = λ d. best-may (is_open p d) (may_be_open a d) (open-allowed a p is d);
  conducts = λ d. closed-allowed a p is d;
  may_move = λ d. best-moves (is_open p d) (is_closed p d) (may_be_open a d) (may_be_closed a d)
      (open-allowed a p is d) (closed-allowed a p is d);
  may_be_false = λ i. best-alive (is_true_input p i) (may_have_value a i true) (said-true a p is i);
}

pub readings-bound : ReadingsBound
readings-bound a p is = (best-bounds a p is, worst-bounds a p is)
