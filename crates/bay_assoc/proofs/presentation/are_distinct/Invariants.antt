use Rattle.std.proofs.Common.{◌≡◌, drop}
use Rattle.bay_assoc.specs.Presentation.{are_distinct}
use Rattle.bay_assoc.proofs.presentation.are_distinct.Given as goal

abbrev pub invariant-loop-at : goal.invariant-loop-at
invariant-loop-at l = are_distinct l.contexts ≡ are_distinct (drop l.at l.contexts)
