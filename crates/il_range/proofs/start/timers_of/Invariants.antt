use Rattle.std.proofs.Common.{◌≡◌, ◌++◌, length}
use Rattle.il_range.specs.Starts.{known_of_kinds}
use Rattle.il_range.proofs.start.timers_of.Given as goal

abbrev pub invariant-loop-rest : goal.invariant-loop-rest
invariant-loop-rest l =
    l.timers.items ++ known_of_kinds l.rest l.left ≡ known_of_kinds l.kinds l.delays

abbrev pub decreases-loop-rest : goal.decreases-loop-rest
decreases-loop-rest l = length l.rest
