use Rattle.std.proofs.Common.{◌≡◌, length, map}
use Rattle.bay_config.specs.Point.{has_twin}
use Rattle.bay_config.proofs.points.has_twin.Given as goal

abbrev pub invariant-loop-point : goal.invariant-loop-point
invariant-loop-point l = has_twin (map (λ p. p.name) l.points) ≡ has_twin (map (λ p. p.name) l.rest)

abbrev pub decreases-loop-point : goal.decreases-loop-point
decreases-loop-point l = length l.rest
