use Rattle.std.proofs.Common.{◌≡◌, length, replicate}
use Rattle.il_scan.specs.Scans.{with_inputs}
use Rattle.il_range.specs.declared.range.Range.TheVariants.{Any}
use Rattle.il_range.proofs.StartLemmas.{tells-any}
use Rattle.il_range.proofs.memory.ranges_after.Goals as goal

pub returns-clause-carries : goal.returns-clause-carries
returns-clause-carries c =
    let points = c.args.image.now.points in
    let start : c.in_ok-start.start.items
    ≡ with_inputs points (replicate (length points) Any) c.args.memory.now =
    let at = c.in_ok-start.ensures in let free = c.in_ok-free.ensures in
    let slice = c.as_slice.ensures.value in let one = c.points.ensures.value in
    let two = c.points-2.ensures.value in cc in
    tells-any c.args.image.now c.in_ok-start.start.items c.args.memory.now
    c.in_ok-forecast.forecast.delays.items c.in_ok-forecast.forecast.ranges.items start
    c.in_ok-forecast.ensures.predicts
