use Rattle.bay_connection.proofs.CuttingLemmas.{comes_to-append, indications-append, left_by-append}
use Rattle.bay_connection.proofs.laws.any_cutting.Goals as goal

pub returns-clause-told : goal.returns-clause-told
returns-clause-told c = comes_to-append

pub returns-clause-indications : goal.returns-clause-indications
returns-clause-indications c = indications-append

pub returns-clause-left : goal.returns-clause-left
returns-clause-left c = left_by-append
