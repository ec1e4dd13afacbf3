use Rattle.std.proofs.Common.{◌∙◌, sym}
use Rattle.bay_tree.proofs.ArenaLemmas.{next_beside-same}
use Rattle.bay_mms.proofs.MarkLemmas.{names_of-marked}
use Rattle.bay_mms.proofs.client_view.ClientView.beside.Goals as goal

pub returns-clause-next : goal.returns-clause-next
returns-clause-next c =
    rw (← c.self.view_is) (
    c.beside.ensures.next
    ∙ sym (next_beside-same _ _ c.args.handle
    (names_of-marked c.self.inside.marked c.self.inside.tree.now)))
