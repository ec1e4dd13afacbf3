use Rattle.std.proofs.Common.{◌≡◌, ◌++◌, take}
use Rattle.std.specs.Prelude.{map}
use Rattle.il_range.specs.Effects.{value_range}
use Rattle.bay_audit.proofs.start.first_ranges.Given as goal

abbrev pub invariant-loop-variable : goal.invariant-loop-variable
invariant-loop-variable l =
    l.ranges.items ≡ l.initial.ranges.items
    ++ map value_range (take l.variable-index l.variable-items)
