use Rattle.il_check.proofs.LabellingLemmas.{least_types}
use Rattle.il_check.proofs.laws.least_types.Goals as goal

pub returns : goal.returns
returns c = least_types
