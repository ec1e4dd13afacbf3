use Rattle.std.proofs.Common.{◌∙◌, ap, w32}
use Rattle.std.proofs.lemmas.Int.{to_z-of_z}
use Rattle.bay_tree.specs.declared.leaf.Leaf.TheVariants as leaf
use Rattle.bay_tree.specs.Rows.{with_leaf_named}
use Rattle.bay_process.specs.Layout.{layout_of, row_name_in}
use Rattle.bay_process.proofs.FloatLemmas.{float-kept, float-written}
use Rattle.bay_process.proofs.meter.put_float.Goals as goal

pub returns-in-Some-clause-rows : goal.returns-in-Some-clause-rows
returns-in-Some-clause-rows c name is =
    let rows = c.args.tree.now in
    c.put.ensures.rows
    ∙ ap (λ z. with_leaf_named (row_name_in (layout_of rows) c.in-Some.handle) (leaf.Float z) rows)
    (to_z-of_z w32 c.args.value (record { sfits = c.ranges.value.sfits }))
    ∙ float-written rows name c.in-Some.handle c.args.value c.are_a_tree.ensures
    (is.named c.in-Some.handle c.in-Some.is) (is.leaf_typed c.in-Some.handle c.in-Some.is)

pub returns-in_default-clause-rows : goal.returns-in_default-clause-rows
returns-in_default-clause-rows c name is =
    float-kept c.args.tree.now name c.args.value (is.missing c.in_default.is)
