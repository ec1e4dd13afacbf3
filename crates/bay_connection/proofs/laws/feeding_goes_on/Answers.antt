use Rattle.bay_connection.proofs.FeedingLemmas.{feeding-indications, feeding-left}
use Rattle.bay_connection.proofs.laws.feeding_goes_on.Goals as goal

pub returns-clause-indications : goal.returns-clause-indications
returns-clause-indications c = feeding-indications

pub returns-clause-left : goal.returns-clause-left
returns-clause-left c = feeding-left
