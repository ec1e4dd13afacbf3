use Rattle.il_check.proofs.LeastLemmas.{answered-is-least}
use Rattle.il_check.proofs.laws.answered_fault_is_least.Goals as goal

pub returns : goal.returns
returns c = answered-is-least
