use Rattle.std.proofs.Common.{length}
use Rattle.il_scan.proofs.PlaceLemmas.{below-at}
use Rattle.il_scan.proofs.slots.copy_outputs.Goals as goal

pub output_value-requires-clause-within : goal.output_value-requires-clause-within
output_value-requires-clause-within c =
    below-at (length c.args.points.now) c.args.writes.now c.loop-k.k c.requires.within
    c.loop-k-test.true
