use Rattle.std.proofs.Common.{◌∙◌, sym}
use Rattle.bay_tree.proofs.ArenaLemmas.{first_below-same}
use Rattle.bay_mms.proofs.MarkLemmas.{names_of-marked}
use Rattle.bay_mms.proofs.client_view.ClientView.below.Goals as goal

pub returns-clause-first : goal.returns-clause-first
returns-clause-first c =
    rw (← c.self.view_is) (
    c.below.ensures.first
    ∙ sym (first_below-same _ _ c.args.handle
    (names_of-marked c.self.inside.marked c.self.inside.tree.now)))
