use Rattle.bay_ber.proofs.ShortestLemmas.{element-shortest, integer-shortest}
use Rattle.bay_ber.proofs.laws.written_is_shortest.Goals as goal

pub returns-clause-value : goal.returns-clause-value
returns-clause-value c = element-shortest

pub returns-clause-integer : goal.returns-clause-integer
returns-clause-integer c = integer-shortest
