use Rattle.il_check.proofs.RightLemmas.{right_programs_pass}
use Rattle.il_check.proofs.laws.right_programs_pass.Goals as goal

pub returns : goal.returns
returns c = right_programs_pass
