use Rattle.il_compile.proofs.JumpLemmas.{taken, not_taken}
use Rattle.il_compile.proofs.laws.jumps_go_on.Goals as goal

pub returns-clause-taken : goal.returns-clause-taken
returns-clause-taken c = taken

pub returns-clause-not_taken : goal.returns-clause-not_taken
returns-clause-not_taken c = not_taken
