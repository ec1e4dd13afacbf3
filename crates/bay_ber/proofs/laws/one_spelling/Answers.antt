use Rattle.bay_ber.proofs.ReadLemmas.{one_reading, one-front}
use Rattle.bay_ber.proofs.laws.one_spelling.Goals as goal

pub returns-clause-reading : goal.returns-clause-reading
returns-clause-reading c = one_reading

pub returns-clause-prefix : goal.returns-clause-prefix
returns-clause-prefix c = one-front
