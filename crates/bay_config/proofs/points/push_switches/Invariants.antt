use Rattle.std.proofs.Common.{◌≡◌, ◌++◌, drop}
use Rattle.bay_config.specs.Point.{points_from}
use Rattle.bay_config.proofs.points.push_switches.Given as goal

abbrev pub invariant-loop-index : goal.invariant-loop-index
invariant-loop-index l =
    l.fn.points.items ++ points_from 0 l.switches
    ≡ l.points.items ++ points_from l.index (drop l.index l.switches)
