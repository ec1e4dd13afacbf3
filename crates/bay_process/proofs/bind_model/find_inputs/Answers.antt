use Rattle.std.proofs.Common.{◌+◌, arith}
use Rattle.bay_process.specs.Layout.{layout_of}
use Rattle.bay_process.proofs.BoundModelLemmas.{found-truth, inputs-snoc}
use Rattle.bay_process.proofs.ListLemmas.{length-snoc}
use Rattle.bay_process.proofs.NodeLemmas.{are-there}
use Rattle.bay_process.proofs.bind_model.find_inputs.Goals as goal

pub find_status_rows-requires : goal.find_status_rows-requires
find_status_rows-requires c =
    rw (c.as_str.ensures, c.in_ok-object.ensures)
    (are-there _ _ _ (c.requires c.loop-index.index c.loop-index-test.true))

pub loop-index-preserved : goal.loop-index-preserved
loop-index-preserved c =
    let items = c.loop-index.inputs.items in
    rw c.in_ok-push.ensures.items record {
      sized = length-snoc items _ c.loop-index.index c.loop-index.invariant.sized;
      bound = inputs-snoc (layout_of c.args.tree.now) 0 items _ (c.loop-index.index + 1)
          c.loop-index.invariant.bound (omega (arith, c.loop-index.invariant.sized))
          (found-truth c.args.tree.now _ _
          (c.requires c.loop-index.index c.loop-index-test.true)
          (rw (c.as_str.ensures, c.in_ok-object.ensures) at c.in_ok-rows.ensures));
    }
