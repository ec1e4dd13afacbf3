use Rattle.il_verify.proofs.OneLemmas.{one_refusal}
use Rattle.il_verify.proofs.laws.one_refusal.Goals as goal

pub returns : goal.returns
returns c = one_refusal
