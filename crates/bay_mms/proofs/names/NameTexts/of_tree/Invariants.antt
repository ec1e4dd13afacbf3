use Rattle.std.proofs.Common.{◌≡◌, ◌++◌, IfSome, length}
use Rattle.bay_tree.specs.Rows.{IsHandle, names_of}
use Rattle.bay_mms.specs.Pages.{ends_from, names_from}
use Rattle.bay_mms.specs.Responses.{names_text}
use Rattle.bay_mms.proofs.names.NameTexts.of_tree.Given as goal

abbrev pub invariant-loop-next : goal.invariant-loop-next
invariant-loop-next l =
    (l.octets.items ++ names_text (names_from l.tree l.next) ≡ names_text (names_of l.tree))
    × (l.ends.items ++ ends_from (length l.octets.items) (names_from l.tree l.next)
    ≡ ends_from 0 (names_of l.tree)) × IfSome l.next (IsHandle l.tree)

abbrev pub decreases-loop-next : goal.decreases-loop-next
decreases-loop-next l = length (names_from l.tree l.next)
