use Rattle.std.proofs.Common.{◌≡◌, ◌∙◌, ap, get_or, subst, sym}
use Rattle.bay_tree.specs.declared.leaf.LeafType.TheVariants as leaf_type
use Rattle.bay_process.specs.Layout.{AreStatusRows, layout_of}
use Rattle.bay_process.specs.ModelRows.{AreLocalsTyped}
use Rattle.bay_process.proofs.HandleLemmas.{input-after, inputs-typed, locals-typed}
use Rattle.bay_process.proofs.model.ModelRows.apply_input.Goals as goal

pub put_truth-requires : goal.put_truth-requires
put_truth-requires c =
    let layout = layout_of c.args.tree.now in
    let model = c.args.self.now in
    let handles = c.index-as_slice-input.result in
    let is : handles ≡ get_or model.inputs c.args.input handles =
    c.index-as_slice-input.is
    ∙ ap (λ rs. get_or rs c.args.input handles) c.as_slice.ensures in
    subst (AreStatusRows layout leaf_type.Truth) (sym is)
    (inputs-typed layout 0 model.inputs c.requires.bound.2.inputs_bound c.args.input handles
    c.requires.within)

pub put_locals-requires : goal.put_locals-requires
put_locals-requires c =
    let w = c.requires.bound in
    let typed =
    locals-typed (layout_of c.args.tree.now) w.0 w.1 0 w.1 c.args.self.now.locals w.2.locals in
    rw c.as_slice-2.ensures
    (subst (λ l. AreLocalsTyped l c.args.self.now.locals) (sym c.put_truth.ensures.layout) typed)

pub returns-clause-rows : goal.returns-clause-rows
returns-clause-rows c inputs switches bound =
    let model = c.args.self.now in
    let handles = c.index-as_slice-input.result in
    let is : handles ≡ get_or model.inputs c.args.input handles =
    c.index-as_slice-input.is
    ∙ ap (λ rs. get_or rs c.args.input handles) c.as_slice.ensures in
    input-after inputs switches model c.args.now c.args.tree.now c.put_truth.new.tree
    c.put_locals.new.tree bound c.put_truth.ensures.layout c.args.input c.args.value handles is
    c.requires.within c.put_truth.ensures.rows
    (rw c.as_slice-2.ensures at c.put_locals.ensures.rows)
