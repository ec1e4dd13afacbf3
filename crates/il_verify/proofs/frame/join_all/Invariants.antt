use Rattle.std.proofs.Common.{◌≡◌, ◌++◌, take, drop, length}
use Rattle.il_verify.specs.Frames.{join_all}
use Rattle.il_verify.proofs.frame.join_all.Given as goal

abbrev pub invariant-loop-i : goal.invariant-loop-i
invariant-loop-i l =
    (length l.kinds.items ≡ length l.initial.kinds.items)
    × (join_all l.initial.kinds.items l.others
    ≡ take l.i l.kinds.items ++ join_all (drop l.i l.kinds.items) (drop l.i l.others))
