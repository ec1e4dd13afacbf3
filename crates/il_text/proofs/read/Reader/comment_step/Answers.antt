use Rattle.std.proofs.Common.{arith}
use Rattle.il_text.proofs.ReadLemmas.{step-closing, step-inside-end}
use Rattle.il_text.proofs.read.Reader.comment_step.Goals as goal

pub returns-then-ends_comment-clause-ok : goal.returns-then-ends_comment-clause-ok
returns-then-ends_comment-clause-ok c = grind (arith, step-closing)

pub returns-clause-ok : goal.returns-clause-ok
returns-clause-ok c = grind (arith, step-inside-end)

pub returns-clause-refused : goal.returns-clause-refused
returns-clause-refused c = grind (arith, step-inside-end)
