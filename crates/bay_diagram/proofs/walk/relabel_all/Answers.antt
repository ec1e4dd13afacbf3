use Rattle.std.proofs.Common.{◌∙◌, ap, arith, below_more, get_or-set_same, get_or-set_other}
use Rattle.std.proofs.lemmas.Grind.{common_steps}
use Rattle.bay_diagram.specs.Joined.{relabel}
use Rattle.bay_diagram.proofs.walk.relabel_all.Goals as goal

pub loop-n-preserved : goal.loop-n-preserved
loop-n-preserved c = (
  λ d. below_more _ _
      (λ k h. get_or-set_other c.loop-n.labels c.loop-n.n k _ d (omega arith)
      ∙ c.loop-n.invariant.0 d k h)
      (get_or-set_same c.loop-n.labels c.loop-n.n _ d (omega arith)
      ∙ c.relabelled.ensures
      ∙ ap (relabel c.args.from c.args.to) (c.loop-n.invariant.1 0 c.loop-n.n (omega arith))),
  λ d k h. get_or-set_other c.loop-n.labels c.loop-n.n k _ d (omega (arith, h))
      ∙ c.loop-n.invariant.1 d k (omega (arith, h)),
  grind (arith, common_steps),
)
