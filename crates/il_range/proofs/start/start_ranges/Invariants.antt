use Rattle.std.proofs.Common.{◌≡◌, ◌++◌, length}
use Rattle.il_scan.specs.Scans.{with_inputs}
use Rattle.il_range.proofs.start.start_ranges.Given as goal

abbrev pub invariant-loop-rest : goal.invariant-loop-rest
invariant-loop-rest l =
    l.ranges.items ++ with_inputs l.rest l.left l.known
    ≡ with_inputs l.points l.given l.memory

abbrev pub decreases-loop-rest : goal.decreases-loop-rest
decreases-loop-rest l = length l.rest
