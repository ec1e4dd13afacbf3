use Rattle.std.proofs.Common.{◌≡◌, ◌++◌, take, drop, length}
use Rattle.il_range.specs.Effects.{join_timer, join_lists}
use Rattle.il_range.proofs.known.join_timers.Given as goal

abbrev pub invariant-loop-i : goal.invariant-loop-i
invariant-loop-i l =
    (length l.timers.items ≡ length l.initial.timers.items)
    × (join_lists join_timer l.initial.timers.items l.others
    ≡ take l.i l.timers.items
    ++ join_lists join_timer (drop l.i l.timers.items) (drop l.i l.others))
