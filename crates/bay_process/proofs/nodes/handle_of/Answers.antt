use Rattle.std.proofs.Common.{◌∙◌}
use Rattle.bay_process.proofs.NodeLemmas.{lacking-leaf, refused-so}
use Rattle.bay_process.proofs.nodes.handle_of.Goals as goal

pub unreachable-requires : goal.unreachable-requires
unreachable-requires c =
    c.requires
    (lacking-leaf c.args.tree.now c.args.name.now
    (c.find.ensures.unknown.0
    (c.find.ensures.place ∙ refused-so _ _ _ (rw c.find.ensures.place at c.in-Err.is))))
