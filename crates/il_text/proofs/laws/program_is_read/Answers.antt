use Rattle.il_text.proofs.UniqueLemmas.{program_is_read}
use Rattle.il_text.proofs.laws.program_is_read.Goals as goal

pub returns : goal.returns
returns c = program_is_read
