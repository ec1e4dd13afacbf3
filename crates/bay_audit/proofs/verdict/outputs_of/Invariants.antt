use Rattle.std.proofs.Common.{◌≡◌, ◌++◌, drop}
use Rattle.il_scan.specs.Scans.{outputs_of}
use Rattle.bay_audit.proofs.verdict.outputs_of.Given as goal

abbrev pub invariant-loop-slot : goal.invariant-loop-slot
invariant-loop-slot l =
    outputs_of l.points l.ranges
    ≡ l.outputs.items ++ outputs_of (drop l.slot l.points) (drop l.slot l.ranges)
