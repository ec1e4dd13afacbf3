use Rattle.il_check.specs.NamesView.{names_of}
use Rattle.il_check.proofs.WalkLemmas.{EntriesSoFar}
use Rattle.il_check.proofs.walk.Checker.+entries.Given as goal

abbrev pub invariant-check_entries-loop-item : goal.invariant-check_entries-loop-item
invariant-check_entries-loop-item l =
    EntriesSoFar (names_of l.names) l.context.room l.context.is_reached l.context.passed l.items
    l.fn.self.found l.item-index l.self.found l.passed
