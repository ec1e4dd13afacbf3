use Rattle.std.proofs.Common.{◌≡◌, ◌-◌}
use Rattle.il_image.specs.Decoding.{counted_at, items_at, point_at}
use Rattle.il_image.proofs.ItemLemmas.{joined}
use Rattle.il_image.proofs.decode.points_at.Given as goal

abbrev pub invariant-items : goal.invariant-items
invariant-items l =
    counted_at (point_at l.version) l.octets
    ≡ joined l.points.items (items_at (point_at l.version) (l.count - l.counter) l.rest)
