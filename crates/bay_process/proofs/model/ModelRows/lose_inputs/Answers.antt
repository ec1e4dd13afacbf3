use Rattle.std.proofs.Common.{subst, sym}
use Rattle.bay_process.specs.Layout.{layout_of}
use Rattle.bay_process.specs.ModelRows.{AreLocalsTyped}
use Rattle.bay_process.proofs.HandleLemmas.{inputs-typed, locals-typed, lost-after}
use Rattle.bay_process.proofs.model.ModelRows.lose_inputs.Goals as goal

pub invalidate_inputs-requires : goal.invalidate_inputs-requires
invalidate_inputs-requires c =
    rw c.as_slice.ensures
    (inputs-typed (layout_of c.args.tree.now) 0 c.args.self.now.inputs c.requires.2.inputs_bound)

pub put_locals-requires : goal.put_locals-requires
put_locals-requires c =
    let w = c.requires in
    let typed =
    locals-typed (layout_of c.args.tree.now) w.0 w.1 0 w.1 c.args.self.now.locals w.2.locals in
    rw c.as_slice-2.ensures
    (subst (λ l. AreLocalsTyped l c.args.self.now.locals) (sym c.invalidate_inputs.ensures.layout)
    typed)

pub returns-clause-rows : goal.returns-clause-rows
returns-clause-rows c inputs switches bound =
    lost-after inputs switches c.args.self.now c.args.now c.args.tree.now
    c.invalidate_inputs.new.tree c.put_locals.new.tree bound c.invalidate_inputs.ensures.layout
    (rw c.as_slice.ensures at c.invalidate_inputs.ensures.rows)
    (rw c.as_slice-2.ensures at c.put_locals.ensures.rows)
