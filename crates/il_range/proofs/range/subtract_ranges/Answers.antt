use Rattle.std.proofs.Common.{◌-ℤ◌, ◌∙◌}
use Rattle.std.specs.Int.{w64}
use Rattle.std.proofs.lemmas.Int.{to_z-of_z}
use Rattle.il_range.proofs.NumberLemmas.{wrapped-by}
use Rattle.il_range.proofs.range.subtract_ranges.Goals as goal

pub returns : goal.returns
returns c =
    let low = rw (to_z-of_z w64 c.args.a c.ranges.a, to_z-of_z w64 c.args.d c.ranges.d)
    at c.checked_sub.ensures in
    let high = rw (to_z-of_z w64 c.args.b c.ranges.b, to_z-of_z w64 c.args.c c.ranges.c)
    at c.checked_sub-2.ensures in
    c.wrap_range.ensures
    ∙ wrapped-by c.args.width c.checked_sub.result c.checked_sub-2.result (c.args.a -ℤ c.args.d)
    (c.args.b -ℤ c.args.c) low high
