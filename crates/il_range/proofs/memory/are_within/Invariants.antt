use Rattle.std.proofs.Common.{◌≡◌, length}
use Rattle.il_range.specs.Effects as spec
use Rattle.il_range.proofs.memory.are_within.Given as goal

abbrev pub invariant-loop-rest : goal.invariant-loop-rest
invariant-loop-rest l = spec.are_within l.rest l.left ≡ spec.are_within l.ranges l.others

abbrev pub decreases-loop-rest : goal.decreases-loop-rest
decreases-loop-rest l = length l.rest
