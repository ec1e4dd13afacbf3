use Rattle.std.proofs.Common.{◌≡◌, ◌-◌}
use Rattle.il_image.specs.Decoding.{counted_at, items_at}
use Rattle.il_image.proofs.ItemLemmas.{joined}
use Rattle.il_image.proofs.decode.items_at.Given as goal

abbrev pub invariant-items : goal.invariant-items
invariant-items g l =
    counted_at (g.T.ListItem.at l.version) l.octets
    ≡ joined l.items.items (items_at (g.T.ListItem.at l.version) (l.count - l.counter) l.rest)
