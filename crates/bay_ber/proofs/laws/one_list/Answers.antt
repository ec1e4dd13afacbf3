use Rattle.bay_ber.proofs.ValueLemmas.{one-value, one_list}
use Rattle.bay_ber.proofs.laws.one_list.Goals as goal

pub returns-clause-value : goal.returns-clause-value
returns-clause-value c = one-value

pub returns-clause-list : goal.returns-clause-list
returns-clause-list c = one_list
