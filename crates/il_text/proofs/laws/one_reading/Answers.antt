use Rattle.il_text.proofs.UniqueLemmas.{one_reading}
use Rattle.il_text.proofs.laws.one_reading.Goals as goal

pub returns : goal.returns
returns c = one_reading
