use Rattle.std.proofs.Common.{sym}
use Rattle.il_image.proofs.PlaceLemmas.{found-forward, from-place, none-past-end}
use Rattle.il_image.proofs.read.instr_at.Goals as goal

pub returns-then-offset-code-clause-value : goal.returns-then-offset-code-clause-value
returns-then-offset-code-clause-value c =
    sym (none-past-end c.args.code.now c.args.offset c.if-offset-code.true)

pub returns-clause-value : goal.returns-clause-value
returns-clause-value c =
    from-place c.args.code.now c.args.offset c.first_instr.result c.first_instr.ensures

pub returns-clause-forward : goal.returns-clause-forward
returns-clause-forward c =
    found-forward c.args.code.now c.args.offset c.first_instr.result
    (from-place c.args.code.now c.args.offset c.first_instr.result c.first_instr.ensures)
