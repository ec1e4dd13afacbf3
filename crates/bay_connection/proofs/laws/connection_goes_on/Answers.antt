use Rattle.bay_connection.proofs.GoingLemmas.{heard-going, nothing-going}
use Rattle.bay_connection.proofs.laws.connection_goes_on.Goals as goal

pub returns-clause-quiet : goal.returns-clause-quiet
returns-clause-quiet c = nothing-going

pub returns-clause-heard : goal.returns-clause-heard
returns-clause-heard c = heard-going
