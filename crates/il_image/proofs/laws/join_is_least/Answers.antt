use Rattle.il_image.proofs.KindLemmas.{join-least, join-over, kind-above, within-along, within-self}
use Rattle.il_image.proofs.laws.join_is_least.Goals as goal

pub returns-clause-same : goal.returns-clause-same
returns-clause-same c = within-self

pub returns-clause-along : goal.returns-clause-along
returns-clause-along c = within-along

pub returns-clause-values : goal.returns-clause-values
returns-clause-values c = kind-above

pub returns-clause-above : goal.returns-clause-above
returns-clause-above c = join-over

pub returns-clause-least : goal.returns-clause-least
returns-clause-least c = join-least
