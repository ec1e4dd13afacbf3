use Rattle.std.proofs.Common.{◌∙◌, arith, below_more, get_or-set_same, get_or-set_other}
use Rattle.std.proofs.lemmas.Grind.{common_steps}
use Rattle.bay_diagram.proofs.WalkLemmas.{label-of-numbers}
use Rattle.bay_diagram.proofs.walk.own_labels.Goals as goal

pub loop-n-preserved : goal.loop-n-preserved
loop-n-preserved c = (
  λ d. below_more _ _
      (λ k h. get_or-set_other c.loop-n.labels c.loop-n.n k _ d (omega arith)
      ∙ c.loop-n.invariant.0 d k h)
      (get_or-set_same c.loop-n.labels c.loop-n.n _ d (omega arith)),
  grind (arith, common_steps),
)

pub returns-clause-own : goal.returns-clause-own
returns-clause-own c n =
    label-of-numbers c.loop-n.labels (λ k d h. c.loop-n.invariant.0 d k (omega arith))
    c.loop-n.invariant.1 n
