use Rattle.il_check.proofs.KeepingLemmas.{keeps}
use Rattle.il_check.proofs.laws.a_check_changes_no_right_program.Goals as goal

pub returns : goal.returns
returns c = keeps
