use Rattle.std.proofs.Common.{arith}
use Rattle.il_check.proofs.NotedLemmas.{noted-four}
use Rattle.il_check.proofs.declare.declaration_fault.Goals as goal

pub returns : goal.returns
returns c = grind (arith, noted-four)
