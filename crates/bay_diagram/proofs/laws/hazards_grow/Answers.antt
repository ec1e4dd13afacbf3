use Rattle.bay_diagram.proofs.ExactLemmas.{hazards-are-exact}
use Rattle.bay_diagram.proofs.GrowthLemmas.{hazards-are-bounded, hazards-grow}
use Rattle.bay_diagram.proofs.ReadingLemmas.{readings-bound}
use Rattle.bay_diagram.proofs.laws.hazards_grow.Goals as goal

pub returns-clause-grow : goal.returns-clause-grow
returns-clause-grow c = hazards-grow

pub returns-clause-readings : goal.returns-clause-readings
returns-clause-readings c = readings-bound

pub returns-clause-bounded : goal.returns-clause-bounded
returns-clause-bounded c = hazards-are-bounded

pub returns-clause-exact : goal.returns-clause-exact
returns-clause-exact c = hazards-are-exact
