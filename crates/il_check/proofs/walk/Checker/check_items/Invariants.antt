use Rattle.il_check.specs.NamesView.{names_of}
use Rattle.il_check.specs.WellTyped.{start_progress}
use Rattle.il_check.proofs.WalkLemmas.{ItemsSoFar}
use Rattle.il_check.proofs.walk.Checker.check_items.Given as goal

abbrev pub invariant-loop-item : goal.invariant-loop-item
invariant-loop-item l =
    ItemsSoFar (names_of l.names) l.items l.fn.self.found (start_progress l.fn.arrivals.items)
    l.item-index
    l.self.found l.walk
