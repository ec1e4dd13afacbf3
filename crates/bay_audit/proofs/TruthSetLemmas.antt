-- What a condition may come to in a case has what it is, for each process of the case.
use Rattle.std.proofs.Common.{◌≡◌, ℕ, ℤ, Bool, true, false, not, ◌&&◌, ◌||◌, List, [], ◌∷◌, refl, arith}
use Rattle.std.specs.Prelude.{◌≤ℤ◌, int_le, int_lt}
use Rattle.std.specs.Ordering.{int_eq}
use Rattle.std.proofs.lemmas.Bool.{and_from, or_left, or_right}
use Rattle.std.proofs.lemmas.Bool.Decides.{Decides-int_eq}
use Rattle.std.proofs.lemmas.Int.{ints}
use Rattle.bay_base.specs.declared.position.Dbpos.{Dbpos}
use Rattle.bay_base.specs.declared.position.Dbpos.TheVariants.{Intermediate, Off, On, Bad}
use Rattle.bay_base.specs.Positions.{same_position}
use Rattle.bay_audit_rules.specs.Process.{Process, after_item, after_items, holds, join_top, negate_top, has_relation, top}
use Rattle.bay_audit_rules.specs.declared.rule.ConditionItem.{ConditionItem}
use Rattle.bay_audit_rules.specs.declared.rule.ConditionItem.TheVariants as items
use Rattle.bay_audit_rules.specs.declared.rule.Relation.{Relation}
use Rattle.bay_audit_rules.specs.declared.rule.Relation.TheVariants.{Less, AtMost, Equal, Unequal, AtLeast, Greater}
use Rattle.bay_audit.specs.Cases.{high_of, input_may, is_in, low_of, may_be}
use Rattle.bay_audit.specs.Conditions.{and_truths, or_truths, includes, negate_top_truths, negate_truths, truth_set, truths_after_item, condition_truths, truths_after_items, join_top_truths, position_truths, relation_truths, top_truths}
use Rattle.bay_audit.specs.Process.{IsProcess}
use Rattle.bay_audit.specs.declared.case.TestAnswer.{TestAnswer}
use Rattle.bay_audit.specs.declared.truth_set.TruthSet.{TruthSet}
use Rattle.bay_audit.proofs.CaseLemmas.{high-of, input-may, low-of, or-first, or-second, or-third, position-may}

-- ---- stacks

-- each truth value is one of those that may be
abbrev Include : List TruthSet → List Bool → Type 0
Include [] [] = Unit {0}
Include (o ∷ os) (b ∷ bs) = (includes o b ≡ true) × Include os bs
Include [] (b ∷ bs) = ⊥
Include (o ∷ os) [] = ⊥

pub of-opposite : (o : TruthSet) (b : Bool) → includes o b ≡ true
    → includes (negate_truths o) (not b) ≡ true
of-opposite o true h = h
of-opposite o false h = h

pub of-both : (o q : TruthSet) (a b : Bool) → includes o a ≡ true → includes q b ≡ true
    → includes (and_truths o q) (a && b) ≡ true
of-both o q true true h k = and_from o.yes q.yes h k
of-both o q true false h k = or_right o.no q.no k
of-both o q false true h k = or_left o.no q.no h
of-both o q false false h k = or_left o.no q.no h

of-either : (o q : TruthSet) (a b : Bool) → includes o a ≡ true → includes q b ≡ true
    → includes (or_truths o q) (a || b) ≡ true
of-either o q true true h k = or_left o.yes q.yes h
of-either o q true false h k = or_left o.yes q.yes h
of-either o q false true h k = or_right o.yes q.yes k
of-either o q false false h k = and_from o.no q.no h k

include-opposed : (os : List TruthSet) (bs : List Bool) → Include os bs
    → Include (negate_top_truths os) (negate_top bs)
include-opposed [] [] h = tt
include-opposed (o ∷ os) (b ∷ bs) h = (of-opposite o b h.0, h.1)
include-opposed [] (b ∷ bs) h = absurd h
include-opposed (o ∷ os) [] h = absurd h

module _ (f : TruthSet → TruthSet → TruthSet) (g : Bool → Bool → Bool)
    (each : (o q : TruthSet) (a b : Bool) → includes o a ≡ true → includes q b ≡ true
    → includes (f o q) (g a b) ≡ true) where
  include-joined : (os : List TruthSet) (bs : List Bool) → Include os bs
      → Include (join_top_truths f os) (join_top g bs)
  include-joined [] [] h = tt
  include-joined (o ∷ []) (b ∷ []) h = tt
  include-joined (o ∷ q ∷ os) (b ∷ a ∷ bs) h = (each q o a b h.1.0 h.0, h.1.1)
  include-joined [] (b ∷ bs) h = absurd h
  include-joined (o ∷ []) [] h = absurd h
  include-joined (o ∷ q ∷ os) [] h = absurd h
  include-joined (o ∷ []) (b ∷ a ∷ bs) h = absurd h.1
  include-joined (o ∷ q ∷ os) (b ∷ []) h = absurd h.1

-- ---- facts

module _ (may : Dbpos → Bool) where
  position-included : (d which : Dbpos) → may d ≡ true
      → includes (position_truths which (may Intermediate) (may Off) (may On) (may Bad))
      (same_position d which) ≡ true
  position-included Intermediate Intermediate h = h
  position-included Off Off h = h
  position-included On On h = h
  position-included Bad Bad h = h
  position-included Intermediate Off h = or-first (may Intermediate) (may On) (may Bad) h
  position-included Intermediate On h = or-first (may Intermediate) (may Off) (may Bad) h
  position-included Intermediate Bad h = or-first (may Intermediate) (may Off) (may On) h
  position-included Off Intermediate h = or-first (may Off) (may On) (may Bad) h
  position-included Off On h = or-second (may Intermediate) (may Off) (may Bad) h
  position-included Off Bad h = or-second (may Intermediate) (may Off) (may On) h
  position-included On Intermediate h = or-second (may Off) (may On) (may Bad) h
  position-included On Off h = or-second (may Intermediate) (may On) (may Bad) h
  position-included On Bad h = or-third (may Intermediate) (may Off) (may On) h
  position-included Bad Intermediate h = or-third (may Off) (may On) (may Bad) h
  position-included Bad Off h = or-third (may Intermediate) (may On) (may Bad) h
  position-included Bad On h = or-third (may Intermediate) (may Off) (may Bad) h

truth-included : (t f b : Bool) → (b ≡ true → t ≡ true) → (b ≡ false → f ≡ true)
    → includes (truth_set t f) b ≡ true
truth-included t f true p q = p refl
truth-included t f false p q = q refl

module _ (low high x n : ℤ) (above : low ≤ℤ x) (below : x ≤ℤ high) where
  relation-included : (r : Relation)
      → includes (relation_truths r low high n) (has_relation r x n) ≡ true
  relation-included Less =
      truth-included _ _ (int_lt x n) (λ e. grind (arith, ints)) (λ e. grind (arith, ints))
  relation-included AtMost =
      truth-included _ _ (int_le x n) (λ e. grind (arith, ints)) (λ e. grind (arith, ints))
  relation-included Equal =
      truth-included _ _ (int_eq x n) (λ e. grind (arith, ints, Decides-int_eq x n))
      (λ e. grind (arith, ints, Decides-int_eq x n))
  relation-included Unequal =
      truth-included _ _ (not (int_eq x n)) (λ e. grind (arith, ints, Decides-int_eq x n))
      (λ e. grind (arith, ints, Decides-int_eq x n))
  relation-included AtLeast =
      truth-included _ _ (int_le n x) (λ e. grind (arith, ints)) (λ e. grind (arith, ints))
  relation-included Greater =
      truth-included _ _ (int_lt n x) (λ e. grind (arith, ints)) (λ e. grind (arith, ints))

-- ---- conditions

module _ (p : Process) (is : IsProcess p) (case : List TestAnswer) (h : is_in case p ≡ true) where
  input-included : (k : ℕ) (b : Bool) → input_may case k b ≡ true
      → includes (truth_set (input_may case k true) (input_may case k false)) b ≡ true
  input-included k true e = e
  input-included k false e = e

  item-included : (i : ConditionItem) (os : List TruthSet) (bs : List Bool) → Include os bs
      → Include (truths_after_item case i os) (after_item p i bs)
  item-included items.True os bs all = (refl, all)
  item-included (items.Position k which) os bs all =
      (position-included (may_be case k) (p.position k) which (position-may p case h k), all)
  item-included (items.Input k) os bs all =
      (input-included k (p.input k) (input-may p case h k), all)
  item-included (items.Measure k field relation value) os bs all = (
    relation-included (low_of case k field) (high_of case k field) (p.measure k field) value
        (low-of p is case h k field) (high-of p is case h k field) relation,
    all,
  )
  item-included items.Not os bs all = include-opposed os bs all
  item-included items.And os bs all = include-joined and_truths (λ a b. a && b) of-both os bs all
  item-included items.Or os bs all = include-joined or_truths (λ a b. a || b) of-either os bs all

  items-included : (is : List ConditionItem) (os : List TruthSet) (bs : List Bool) → Include os bs
      → Include (truths_after_items case is os) (after_items p is bs)
  items-included [] os bs all = all
  items-included (i ∷ is) os bs all =
      items-included is (truths_after_item case i os) (after_item p i bs)
      (item-included i os bs all)

  top-included : (os : List TruthSet) (bs : List Bool) → Include os bs
      → includes (top_truths os) (top bs) ≡ true
  top-included [] [] all = refl
  top-included (o ∷ os) (b ∷ bs) all = all.0
  top-included [] (b ∷ bs) all = absurd all
  top-included (o ∷ os) [] all = absurd all

  -- the condition is one of what it may come to
  pub condition-included : (is : List ConditionItem)
      → includes (condition_truths case is) (holds is p) ≡ true
  condition-included is =
      top-included (truths_after_items case is []) (after_items p is [])
      (items-included is [] [] tt)
