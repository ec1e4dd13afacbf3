use Rattle.bay_transport.proofs.FeedingLemmas.{leaves-doings, leaves-after}
use Rattle.bay_transport.proofs.laws.feeding_goes_on.Goals as goal

pub returns-clause-doings : goal.returns-clause-doings
returns-clause-doings c = leaves-doings

pub returns-clause-after : goal.returns-clause-after
returns-clause-after c = leaves-after
