use Rattle.il_check.proofs.LabellingLemmas.{some_labelling}
use Rattle.il_check.proofs.laws.some_labelling.Goals as goal

pub returns : goal.returns
returns c = some_labelling
