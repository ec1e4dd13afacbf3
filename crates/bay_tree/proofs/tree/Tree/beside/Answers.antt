use Rattle.std.proofs.Common.{Some, arith}
use Rattle.std.proofs.lemmas.Grind.{common_steps}
use Rattle.bay_tree.proofs.BelowLemmas.{places_behind-next, next_beside-after}
use Rattle.bay_tree.proofs.tree.Tree.beside.Goals as goal

pub returns-in_err-index-clause-next : goal.returns-in_err-index-clause-next
returns-in_err-index-clause-next c = grind (arith, common_steps)

pub returns-clause-next : goal.returns-clause-next
returns-clause-next c = grind (arith, common_steps)

pub returns-in_err-index-clause-rows : goal.returns-in_err-index-clause-rows
returns-in_err-index-clause-rows c =
    places_behind-next c.args.self.now c.args.handle c.from_residual.result
    (returns-in_err-index-clause-next c)

pub returns-clause-rows : goal.returns-clause-rows
returns-clause-rows c =
    places_behind-next c.args.self.now c.args.handle (Some c.in_ok-index.index)
    (returns-clause-next c)

pub returns-clause-after : goal.returns-clause-after
returns-clause-after c =
    next_beside-after c.args.self.now c.args.handle c.in_ok-index.index c.requires
    (returns-clause-next c)
