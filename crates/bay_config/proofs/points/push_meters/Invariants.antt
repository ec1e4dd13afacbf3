use Rattle.std.proofs.Common.{◌≡◌, ◌++◌, drop}
use Rattle.bay_config.specs.Point.{meters_from}
use Rattle.bay_config.proofs.points.push_meters.Given as goal

abbrev pub invariant-loop-meter : goal.invariant-loop-meter
invariant-loop-meter l =
    l.fn.points.items ++ meters_from 0 l.meters
    ≡ l.points.items ++ meters_from l.meter (drop l.meter l.meters)
