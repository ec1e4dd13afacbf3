use Rattle.bay_process.specs.Nodes.{AreNodesOf}
use Rattle.bay_process.proofs.ListLemmas.{each-snoc, length-snoc}
use Rattle.bay_process.proofs.nodes.all_nodes.Goals as goal

pub loop-place-preserved : goal.loop-place-preserved
loop-place-preserved c =
    let items = c.loop-place.all.items in
    let n = c.in_ok-nodes.nodes in
    rw c.in_ok-push.ensures.items record {
      sized = length-snoc items n c.loop-place.place c.loop-place.invariant.sized;
      named = each-snoc (AreNodesOf c.args.bay.now) items n c.loop-place.invariant.named
          (rw c.loop-place.invariant.sized c.in_ok-nodes.ensures);
    }
