use Rattle.bay_control.proofs.BackingLemmas.{all-backed}
use Rattle.bay_control.proofs.laws.operates_are_backed.Goals as goal

pub returns : goal.returns
returns l = all-backed
