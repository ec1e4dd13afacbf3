use Rattle.il_text.proofs.FinishLemmas.{one-derived}
use Rattle.il_text.proofs.laws.one_program_is_derived.Goals as goal

pub returns : goal.returns
returns c = one-derived
