use Rattle.bay_diagram.proofs.JoinedLemmas.{joined-grows, joined-walk}
use Rattle.bay_diagram.proofs.laws.joined_is_a_walk.Goals as goal

pub returns-clause-walk : goal.returns-clause-walk
returns-clause-walk c = joined-walk

pub returns-clause-grows : goal.returns-clause-grows
returns-clause-grows c = joined-grows
