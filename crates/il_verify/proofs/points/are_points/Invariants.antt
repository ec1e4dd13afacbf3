use Rattle.std.proofs.Common.{◌≡◌, length}
use Rattle.il_verify.specs.Binding.{are_points}
use Rattle.il_verify.proofs.points.are_points.Given as goal

abbrev pub invariant-loop-rest : goal.invariant-loop-rest
invariant-loop-rest l = are_points l.bay l.points ≡ are_points l.bay l.rest

abbrev pub decreases-loop-rest : goal.decreases-loop-rest
decreases-loop-rest l = length l.rest
