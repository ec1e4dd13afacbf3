use Rattle.std.proofs.Common.{sym, ◌∙◌, refl, arith}
use Rattle.bay_tree.proofs.TreeLemmas.{IsTree-in_place, IsInPlace-tree}
use Rattle.bay_tree.proofs.search.is_tree.Goals as goal
use Rattle.bay_tree.proofs.search.is_tree.Goals.{then-not-is_first-via-then-not-is_first, then-not-is_first-via-else-not-is_first+then-not-is_below_structure}

pub returns-then-not-is_first : goal.returns-then-not-is_first
returns-then-not-is_first c = (
  λ e. absurd cc,
  λ tree.
      let stands = IsInPlace-tree c.args.rows.now c.loop-place.place c.loop-place-test.true tree in
      elim c.then-not-is_first.branch [
        | then-not-is_first-via-then-not-is_first w
            ↦ sym w.if-not-is_first.true ∙ c.is_first.ensures.1 stands.first
        | then-not-is_first-via-else-not-is_first+then-not-is_below_structure w
            ↦ sym w.if-not-is_below_structure.true ∙ w.is_below_structure.ensures.1 stands.below
      ],
)

pub returns : goal.returns
returns c = (
  λ _. IsTree-in_place c.args.rows.now (λ k lt. c.loop-place.invariant k (omega arith)),
  λ _. refl,
)
