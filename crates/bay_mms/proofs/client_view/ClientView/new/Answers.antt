use Rattle.bay_mms.proofs.MarkLemmas.{names_of-marked}
use Rattle.bay_mms.proofs.client_view.ClientView.new.Goals as goal

pub returns-clause-names : goal.returns-clause-names
returns-clause-names c = names_of-marked c.args.marked c.args.tree.now
