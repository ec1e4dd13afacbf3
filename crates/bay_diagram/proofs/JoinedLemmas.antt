-- Two nodes are joined where they have one label, and where a walk leads from one to the other.
use Rattle.std.proofs.Common.{◌≡◌, ◌⊎◌, inl, inr, ℕ, Bool, true, false, ◌&&◌, ◌||◌, List, [], ◌∷◌, refl, ap, sym, subst, ◌∙◌, arith}
use Rattle.std.specs.Prelude.{◌==◌, fold}
use Rattle.std.proofs.lemmas.Bool.{and_parts}
use Rattle.bay_diagram.specs.declared.network.Branch.{Branch}
use Rattle.bay_diagram.specs.Joined.{IsOf, JoinedGrows, JoinedIsWalk, Walk, joined, label_after, label_of, relabel, with_branch}
use Rattle.bay_diagram.specs.Joined.Walk.{stays, forth, back}

-- ---- labels

same-true : (x y : ℕ) → x ≡ y → (x == y) ≡ true
same-true x y h = grind arith

-- one pair: labels are one afterwards just where the pair joins their nodes
relabel-joins : (u v x y : ℕ) → (relabel u v x == relabel u v y)
    ≡ ((x == y) || ((x == u) && (v == y) || (x == v) && (u == y)))
relabel-joins u v x y = grind arith

module _ (label : ℕ → ℕ) (joins : ℕ → ℕ → Bool)
    (same : (a b : ℕ) → (label a == label b) ≡ joins a b)
    (p : Branch) where
  pair-joins : (a b : ℕ) → (label_after label p a == label_after label p b)
      ≡ with_branch joins p a b
  pair-joins a b =
      relabel-joins (label p.one) (label p.other) (label a) (label b)
      ∙ rw (same a b, same a p.one, same p.other b, same a p.other, same p.one b) refl

fold-joins : (label : ℕ → ℕ) (joins : ℕ → ℕ → Bool) (pairs : List Branch)
    → ((a b : ℕ) → (label a == label b) ≡ joins a b) → (a b : ℕ)
    → (fold label_after label pairs a == fold label_after label pairs b)
    ≡ fold with_branch joins pairs a b
fold-joins label joins [] same a b = same a b
fold-joins label joins (p ∷ pairs) same a b =
    fold-joins (label_after label p) (with_branch joins p) pairs (pair-joins label joins same p) a b

pub labels-join : (pairs : List Branch) (a b : ℕ)
    → (label_of pairs a == label_of pairs b) ≡ joined pairs a b
labels-join pairs a b = fold-joins (λ x. x) (λ x y. x == y) pairs (λ x y. refl) a b

-- what has one label keeps one
fold-kept : (label : ℕ → ℕ) (pairs : List Branch) (a b : ℕ) → label a ≡ label b
    → fold label_after label pairs a ≡ fold label_after label pairs b
fold-kept label [] a b h = h
fold-kept label (p ∷ pairs) a b h =
    fold-kept (label_after label p) pairs a b (ap (relabel (label p.one) (label p.other)) h)

relabel-ends : (u v : ℕ) → relabel u v u ≡ relabel u v v
relabel-ends u v = grind arith

fold-of : (label : ℕ → ℕ) (pairs : List Branch) (p : Branch) → IsOf pairs p
    → fold label_after label pairs p.one ≡ fold label_after label pairs p.other
fold-of label [] p is = absurd is
fold-of label (q ∷ pairs) p (inl same) =
    fold-kept (label_after label q) pairs p.one p.other
    (ap (λ (r : Branch). relabel (label q.one) (label q.other) (label r.one)) (sym same)
    ∙ relabel-ends (label q.one) (label q.other)
    ∙ ap (λ (r : Branch). relabel (label q.one) (label q.other) (label r.other)) same)
fold-of label (q ∷ pairs) p (inr is) = fold-of (label_after label q) pairs p is

-- ---- walks

walk-label : (pairs : List Branch) (a b : ℕ) → Walk pairs a b → label_of pairs a ≡ label_of pairs b
walk-label pairs a b stays = refl
walk-label pairs a b (forth p is w) =
    fold-of (λ x. x) pairs p is ∙ walk-label pairs p.other b w
walk-label pairs a b (back p is w) =
    sym (fold-of (λ x. x) pairs p is) ∙ walk-label pairs p.one b w

append : (pairs : List Branch) (a b c : ℕ) → Walk pairs a b → Walk pairs b c → Walk pairs a c
append pairs a b c stays v = v
append pairs a b c (forth p is w) v = forth p is (append pairs p.other b c w v)
append pairs a b c (back p is w) v = back p is (append pairs p.one b c w v)

or-true : (x y : Bool) → (x || y) ≡ true → (x ≡ true) ⊎ (y ≡ true)
or-true true y h = inl refl
or-true false y h = inr h

module _ (all : List Branch) where
  with-walk : (joins : ℕ → ℕ → Bool) (p : Branch) → IsOf all p
      → ((a b : ℕ) → joins a b ≡ true → Walk all a b)
      → (a b : ℕ) → with_branch joins p a b ≡ true → Walk all a b
  with-walk joins p is walks a b h =
      elim (or-true (joins a b) _ h) [
        | inl one ↦ walks a b one
        | inr more ↦ elim (or-true (joins a p.one && joins p.other b) _ more) [
          | inl there ↦
              let both = and_parts (joins a p.one) (joins p.other b) there in
              append all a p.one b (walks a p.one both.0) (forth p is (walks p.other b both.1))
          | inr there ↦
              let both = and_parts (joins a p.other) (joins p.one b) there in
              append all a p.other b (walks a p.other both.0) (back p is (walks p.one b both.1))
        ]
      ]

  fold-walk : (joins : ℕ → ℕ → Bool) (pairs : List Branch)
      → ((p : Branch) → IsOf pairs p → IsOf all p)
      → ((a b : ℕ) → joins a b ≡ true → Walk all a b)
      → (a b : ℕ) → fold with_branch joins pairs a b ≡ true → Walk all a b
  fold-walk joins [] within walks a b h = walks a b h
  fold-walk joins (p ∷ pairs) within walks a b h =
      fold-walk (with_branch joins p) pairs (λ q is. within q (inr is))
      (with-walk joins p (within p (inl refl)) walks) a b h

same-is : (x y : ℕ) → (x == y) ≡ true → x ≡ y
same-is x y h = grind arith

stays-at : (pairs : List Branch) (a b : ℕ) → (a == b) ≡ true → Walk pairs a b
stays-at pairs a b h = subst (λ c. Walk pairs a c) (same-is a b h) stays

pub joined-walk : JoinedIsWalk
joined-walk pairs a b = (
  fold-walk pairs (λ x y. x == y) pairs (λ p is. is) (stays-at pairs) a b,
  λ w. sym (labels-join pairs a b) ∙ same-true _ _ (walk-label pairs a b w),
)

widened : (few more : List Branch) → ((p : Branch) → IsOf few p → IsOf more p) → (a b : ℕ)
    → Walk few a b → Walk more a b
widened few more within a b stays = stays
widened few more within a b (forth p is w) =
    forth p (within p is) (widened few more within p.other b w)
widened few more within a b (back p is w) = back p (within p is) (widened few more within p.one b w)

pub joined-grows : JoinedGrows
joined-grows few more within a b h =
    (joined-walk more a b).1 (widened few more within a b ((joined-walk few a b).0 h))
