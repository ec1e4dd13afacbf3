use Rattle.std.proofs.Common.{◌≡◌, ◌++◌, take}
use Rattle.std.specs.Prelude.{map}
use Rattle.il_verify.specs.Slots.{point_slot}
use Rattle.il_verify.proofs.slots.push_points.Given as goal

abbrev pub invariant-loop-point : goal.invariant-loop-point
invariant-loop-point l =
    l.slots.items ≡ l.initial.slots.items ++ map point_slot (take l.point-index l.points)
