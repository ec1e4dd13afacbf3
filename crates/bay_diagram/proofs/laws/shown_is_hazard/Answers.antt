use Rattle.bay_diagram.proofs.ShownGrowth.{shown-best, shown-grows}
use Rattle.bay_diagram.proofs.ShownLemmas.{shown-is-hazard}
use Rattle.bay_diagram.proofs.laws.shown_is_hazard.Goals as goal

pub returns-clause-hazard : goal.returns-clause-hazard
returns-clause-hazard c = shown-is-hazard

pub returns-clause-grows : goal.returns-clause-grows
returns-clause-grows c = shown-grows

pub returns-clause-best : goal.returns-clause-best
returns-clause-best c = shown-best
