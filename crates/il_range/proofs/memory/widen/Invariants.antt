use Rattle.std.proofs.Common.{◌≡◌, ◌++◌, take, drop, length}
use Rattle.il_range.specs.Effects.{join_lists, widen_range}
use Rattle.il_range.proofs.memory.widen.Given as goal

abbrev pub invariant-loop-i : goal.invariant-loop-i
invariant-loop-i l =
    (length l.ranges.items ≡ length l.initial.ranges.items)
    × (join_lists (widen_range l.is_late) l.initial.ranges.items l.left
    ≡ take l.i l.ranges.items
    ++ join_lists (widen_range l.is_late) (drop l.i l.ranges.items) (drop l.i l.left))
