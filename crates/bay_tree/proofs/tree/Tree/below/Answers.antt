use Rattle.std.proofs.Common.{Some, arith}
use Rattle.std.proofs.lemmas.Grind.{common_steps}
use Rattle.bay_tree.proofs.BelowLemmas.{places_below-first, first_below-after}
use Rattle.bay_tree.proofs.tree.Tree.below.Goals as goal

pub returns-in_err-index-clause-first : goal.returns-in_err-index-clause-first
returns-in_err-index-clause-first c = grind (arith, common_steps)

pub returns-clause-first : goal.returns-clause-first
returns-clause-first c = grind (arith, common_steps)

pub returns-in_err-index-clause-rows : goal.returns-in_err-index-clause-rows
returns-in_err-index-clause-rows c =
    places_below-first c.args.self.now c.args.handle c.from_residual.result
    (returns-in_err-index-clause-first c)

pub returns-clause-rows : goal.returns-clause-rows
returns-clause-rows c =
    places_below-first c.args.self.now c.args.handle (Some c.in_ok-index.index)
    (returns-clause-first c)

pub returns-clause-after : goal.returns-clause-after
returns-clause-after c =
    first_below-after c.args.self.now c.args.handle c.in_ok-index.index
    (rw (← c.self.view_is) c.self.invariant.tree) c.requires (returns-clause-first c)
