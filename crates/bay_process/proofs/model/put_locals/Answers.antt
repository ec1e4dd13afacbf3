use Rattle.std.proofs.Common.{sym, subst}
use Rattle.bay_tree.specs.declared.leaf.LeafType.TheVariants as leaf_type
use Rattle.bay_process.specs.Layout.{AreStatusRows, layout_of}
use Rattle.bay_process.specs.declared.model.LocalRows.{LocalRows}
use Rattle.bay_process.proofs.model.put_locals.Goals as goal

pub put_truth-requires : goal.put_truth-requires
put_truth-requires c =
    let local = c.index-locals-index.result in
    rw c.loop-index.invariant.layout
    (subst (λ (l : LocalRows). AreStatusRows (layout_of c.args.tree.now) leaf_type.Truth l.rows)
    (sym c.index-locals-index.is)
    (c.requires c.loop-index.index local c.loop-index-test.true))
