use Rattle.std.proofs.Common.{◌≡◌, replicate}
use Rattle.il_range.specs.declared.range.Range.TheVariants.{Any}
use Rattle.il_range.proofs.start.free_ranges.Given as goal

abbrev pub invariant-loop : goal.invariant-loop
invariant-loop l = l.ranges.items ≡ replicate l.counter Any
