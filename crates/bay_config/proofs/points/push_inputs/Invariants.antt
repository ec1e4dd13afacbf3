use Rattle.std.proofs.Common.{◌≡◌, ◌++◌, drop}
use Rattle.bay_config.specs.Point.{inputs_from}
use Rattle.bay_config.proofs.points.push_inputs.Given as goal

abbrev pub invariant-loop-input : goal.invariant-loop-input
invariant-loop-input l =
    l.fn.points.items ++ inputs_from 0 l.inputs
    ≡ l.points.items ++ inputs_from l.input (drop l.input l.inputs)
