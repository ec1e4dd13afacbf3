use Rattle.std.proofs.Common.{◌≡◌, ◌∙◌, Some, ap, get_or, slice_get, length, refl}
use Rattle.std.proofs.lemmas.Option.{slice_get_read}
use Rattle.bay_process.specs.Layout.{layout_of}
use Rattle.bay_process.proofs.BoundModelLemmas.{found-truth, locals-snoc}
use Rattle.bay_process.proofs.ListLemmas.{length-snoc}
use Rattle.bay_process.proofs.NodeLemmas.{are-there}
use Rattle.bay_process.proofs.bind_model.find_locals.Goals as goal

pub find_status_rows-requires : goal.find_status_rows-requires
find_status_rows-requires c =
    let nodes = c.args.nodes.now in
    let i = c.loop-index.index in
    let n = get_or nodes i c.index-nodes-index.result in
    let here : slice_get nodes i ≡ Some n =
    slice_get_read nodes (length nodes) i c.index-nodes-index.result refl c.loop-index-test.true
    c.index-nodes-index.is
    ∙ ap Some c.index-nodes-index.is in
    rw c.as_str.ensures (are-there _ _ _ (c.requires i n here))

pub loop-index-preserved : goal.loop-index-preserved
loop-index-preserved c =
    let nodes = c.args.nodes.now in
    let i = c.loop-index.index in
    let n = get_or nodes i c.index-nodes-index.result in
    let items = c.loop-index.locals.items in
    let here : slice_get nodes i ≡ Some n =
    slice_get_read nodes (length nodes) i c.index-nodes-index.result refl c.loop-index-test.true
    c.index-nodes-index.is
    ∙ ap Some c.index-nodes-index.is in
    rw c.in_ok-push.ensures.items record {
      sized = length-snoc items _ i c.loop-index.invariant.sized;
      named = locals-snoc (layout_of c.args.tree.now) nodes c.args.controls.now items n _
          c.loop-index.invariant.named (rw c.loop-index.invariant.sized here)
          (rw c.loop-index.invariant.sized record {
            bound = found-truth c.args.tree.now _ _ (c.requires i n here)
                (rw c.as_str.ensures at c.in_ok-rows.ensures);
            key = c.key-key.ensures;
          });
    }
