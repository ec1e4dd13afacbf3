use Rattle.bay_audit.proofs.ToldLemmas.{cases-told, examples-there}
use Rattle.bay_audit.proofs.laws.cases_are_reported.Goals as goal

pub returns-clause-reported : goal.returns-clause-reported
returns-clause-reported c = cases-told

pub returns-clause-examples : goal.returns-clause-examples
returns-clause-examples c = examples-there
