use Rattle.bay_config.specs.Laws.{NamesMeter}
use Rattle.bay_process.proofs.ListLemmas.{each-snoc, length-snoc}
use Rattle.bay_process.proofs.meters.all_meter_nodes.Goals as goal

pub loop-index-preserved : goal.loop-index-preserved
loop-index-preserved c =
    let items = c.loop-index.all.items in
    let n = c.in_ok-node.node in
    rw c.in_ok-push.ensures.items record {
      sized = length-snoc items n c.loop-index.index c.loop-index.invariant.sized;
      named = each-snoc (NamesMeter c.args.bay.now) items n c.loop-index.invariant.named
          (rw c.loop-index.invariant.sized c.in_ok-node.ensures);
    }
