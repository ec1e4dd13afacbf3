use Rattle.std.proofs.Common.{◌≡◌, ◌++◌, take, drop, length}
use Rattle.il_range.specs.Effects.{join, join_lists}
use Rattle.il_range.proofs.known.join_all.Given as goal

abbrev pub invariant-loop-i : goal.invariant-loop-i
invariant-loop-i l =
    (length l.ranges.items ≡ length l.initial.ranges.items)
    × (join_lists join l.initial.ranges.items l.others
    ≡ take l.i l.ranges.items ++ join_lists join (drop l.i l.ranges.items) (drop l.i l.others))
