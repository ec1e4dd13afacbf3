use Rattle.std.proofs.Common.{ap, ◌∙◌}
use Rattle.std.specs.Option.{option_copied}
use Rattle.bay_tree.specs.Page.{rows_after}
use Rattle.bay_tree.proofs.ArenaLemmas.{page-made}
use Rattle.bay_tree.proofs.tree.Tree.names_after.Goals as goal

pub returns-clause-page : goal.returns-clause-page
returns-clause-page c =
    page-made c.as_slice.result.now c.args.self.now (option_copied c.args.after)
    c.in_ok-start.start c.args.count c.new.result (c.as_slice.ensures.value ∙ c.self.view_is)
    (c.in_ok-start.ensures.rows ∙ ap (rows_after c.args.self.now) c.octets_of.ensures)
    (c.new.ensures ∙ c.in_ok-names.ensures)
