use Rattle.std.proofs.Common.{◌≡◌, length}
use Rattle.il_scan.specs.PointIndices.{are_inputs}
use Rattle.il_scan.proofs.slots.are_inputs.Given as goal

abbrev pub invariant-loop-rest : goal.invariant-loop-rest
invariant-loop-rest l = are_inputs l.points l.inputs ≡ are_inputs l.rest l.left

abbrev pub decreases-loop-rest : goal.decreases-loop-rest
decreases-loop-rest l = length l.rest
