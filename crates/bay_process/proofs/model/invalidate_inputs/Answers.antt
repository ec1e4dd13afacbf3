use Rattle.std.proofs.Common.{sym, subst}
use Rattle.bay_tree.specs.declared.leaf.LeafType.TheVariants as leaf_type
use Rattle.bay_process.specs.Layout.{AreStatusRows, layout_of}
use Rattle.bay_process.specs.declared.rows.StatusRows.{StatusRows}
use Rattle.bay_process.proofs.model.invalidate_inputs.Goals as goal

pub put_truth-requires : goal.put_truth-requires
put_truth-requires c =
    let handles = c.index-inputs-index.result in
    rw c.loop-index.invariant.layout
    (subst (λ (r : StatusRows). AreStatusRows (layout_of c.args.tree.now) leaf_type.Truth r)
    (sym c.index-inputs-index.is)
    (c.requires c.loop-index.index handles c.loop-index-test.true))
