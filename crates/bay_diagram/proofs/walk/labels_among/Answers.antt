use Rattle.std.proofs.Common.{◌∙◌}
use Rattle.bay_diagram.specs.Reading.{reading_in}
use Rattle.bay_diagram.specs.Walks.{label_in, may_lead_over}
use Rattle.bay_diagram.proofs.WalkLemmas.{label-more}
use Rattle.bay_diagram.proofs.walk.labels_among.Goals as goal

pub loop-branch-preserved : goal.loop-branch-preserved
loop-branch-preserved c = (
  λ n. c.join_by.ensures.next n ∙ label-more
      (may_lead_over c.args.network.now (reading_in c.args.known.now) c.args.route)
      c.args.branches.now c.loop-branch.branch-index _ c.loop-branch-test.true
      (label_in c.loop-branch.labels) c.loop-branch.invariant.0 n,
  c.join_by.ensures.long,
)
