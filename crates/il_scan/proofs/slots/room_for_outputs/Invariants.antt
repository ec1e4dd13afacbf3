use Rattle.std.proofs.Common.{◌≡◌, ◌+◌, ◌≤◌, length}
use Rattle.il_scan.specs.PointIndices.{writable_count}
use Rattle.il_scan.proofs.slots.room_for_outputs.Given as goal

abbrev pub invariant-loop-rest : goal.invariant-loop-rest
invariant-loop-rest l =
    (length l.outputs.items + writable_count l.rest ≡ writable_count l.points)
    × (length l.rest ≤ length l.points)

abbrev pub decreases-loop-rest : goal.decreases-loop-rest
decreases-loop-rest l = length l.rest
