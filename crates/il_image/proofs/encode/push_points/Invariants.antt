use Rattle.std.proofs.Common.{◌≡◌, ◌++◌, take}
use Rattle.il_image.specs.Images.{each_spelled, point_octets}
use Rattle.il_image.proofs.encode.push_points.Given as goal

abbrev pub invariant-loop-point : goal.invariant-loop-point
invariant-loop-point l =
    l.octets.items ≡ l.initial.octets.items
    ++ each_spelled point_octets (take l.point-index l.points)
