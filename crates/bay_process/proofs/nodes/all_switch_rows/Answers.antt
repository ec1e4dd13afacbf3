use Rattle.std.proofs.Common.{◌≡◌, Some, slice_get, length, refl}
use Rattle.bay_process.specs.Layout.{layout_of}
use Rattle.std.proofs.lemmas.Option.{slice_get_read}
use Rattle.bay_process.proofs.ListLemmas.{length-snoc}
use Rattle.bay_process.proofs.NodeLemmas.{rows-snoc}
use Rattle.bay_process.proofs.nodes.all_switch_rows.Goals as goal

pub find_switch_rows-requires : goal.find_switch_rows-requires
find_switch_rows-requires c =
    c.requires c.loop-i.i c.index-nodes-i.result
    (slice_get_read c.args.nodes.now (length c.args.nodes.now) c.loop-i.i c.index-nodes-i.result
    refl c.loop-i-test.true c.index-nodes-i.is)

pub loop-i-preserved : goal.loop-i-preserved
loop-i-preserved c =
    let rows = c.loop-i.rows.items in
    let n = c.index-nodes-i.result in
    let here : slice_get c.args.nodes.now c.loop-i.i ≡ Some n =
    slice_get_read c.args.nodes.now (length c.args.nodes.now) c.loop-i.i n refl
    c.loop-i-test.true c.index-nodes-i.is in
    rw c.in_ok-push.ensures.items record {
      sized = length-snoc rows c.in_ok-one.one c.loop-i.i c.loop-i.invariant.sized;
      named = rows-snoc (layout_of c.args.tree.now) c.args.nodes.now rows n c.in_ok-one.one
          c.loop-i.invariant.named (rw c.loop-i.invariant.sized here) c.in_ok-one.ensures;
    }
