use Rattle.std.proofs.Common.{◌≡◌, ◌++◌, length, reverse}
use Rattle.il_image.specs.Images.{all_spelled}
use Rattle.il_compile.proofs.compile.spell_all.Given as goal

abbrev pub invariant-loop-instr : goal.invariant-loop-instr
invariant-loop-instr l =
    l.code.items ++ all_spelled (reverse l.continuation.items)
    ≡ l.initial.code.items ++ all_spelled (reverse l.initial.continuation.items)

abbrev pub decreases-loop-instr : goal.decreases-loop-instr
decreases-loop-instr l = length l.continuation.items
