use Rattle.bay_transport.proofs.RunLemmas.{run-append, doings-append, after-append}
use Rattle.bay_transport.proofs.laws.any_cutting.Goals as goal

pub returns-clause-run : goal.returns-clause-run
returns-clause-run c = run-append

pub returns-clause-doings : goal.returns-clause-doings
returns-clause-doings c = doings-append

pub returns-clause-after : goal.returns-clause-after
returns-clause-after c = after-append
