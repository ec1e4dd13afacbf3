use Rattle.il_range.proofs.StartLemmas.{delays-continue}
use Rattle.il_range.proofs.laws.delays_continue.Goals as goal

pub returns : goal.returns
returns c = delays-continue
