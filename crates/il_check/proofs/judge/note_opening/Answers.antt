use Rattle.std.proofs.Common.{arith}
use Rattle.il_check.proofs.NotedLemmas.{noted-two}
use Rattle.il_check.proofs.judge.note_opening.Goals as goal

pub returns : goal.returns
returns c = grind (arith, noted-two)
