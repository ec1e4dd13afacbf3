use Rattle.std.proofs.Common.{◌≡◌, ◌∙◌, arith}
use Rattle.std.proofs.lemmas.Grind.{common_steps}
use Rattle.std.specs.Option.{option_copied}
use Rattle.bay_tree.specs.Rows.{leaf_at}
use Rattle.bay_tree.proofs.NamedLemmas.{leaf-named}
use Rattle.bay_tree.proofs.tree.Tree.get.Goals as goal

pub returns-clause-named : goal.returns-clause-named
returns-clause-named c =
    let value : option_copied c.as_ref.result ≡ leaf_at c.args.self.now c.args.handle =
    grind (arith, common_steps) in
    value ∙ leaf-named c.args.self.now c.args.handle (rw (← c.self.view_is) c.self.invariant.tree)
    c.requires
