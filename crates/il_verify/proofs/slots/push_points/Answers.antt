use Rattle.std.proofs.Common.{◌<◌, ap, arith, length}
use Rattle.il_image.proofs.MapLemmas.{mapped-turn}
use Rattle.il_verify.specs.Slots.{point_slot}
use Rattle.il_verify.proofs.slots.push_points.Goals as goal

pub loop-point-preserved : goal.loop-point-preserved
loop-point-preserved c =
    let within : c.loop-point.point-index < length c.args.points.now = omega arith in
    mapped-turn point_slot c.args.points.now c.loop-point.point-index c.point-item.result _
    c.args.slots.now.items c.loop-point.slots.items c.push.new.self.items c.loop-point.invariant
    within (ap point_slot c.point-item.is) c.in_ok-push.ensures.items
