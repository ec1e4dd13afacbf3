use Rattle.std.proofs.Common.{◌≡◌, [], drop}
use Rattle.bay_audit.specs.Conditions.{truths_after_items}
use Rattle.bay_audit.proofs.truth_set.condition_truths_of.Given as goal

abbrev pub invariant-loop-item : goal.invariant-loop-item
invariant-loop-item l =
    truths_after_items l.case l.items []
    ≡ truths_after_items l.case (drop l.item-index l.items) l.stack
