use Rattle.il_image.specs.Images.{point_octets}
use Rattle.il_image.proofs.EachLemmas.{each-turn}
use Rattle.il_image.proofs.encode.push_points.Goals as goal

pub loop-point-preserved : goal.loop-point-preserved
loop-point-preserved c =
    each-turn point_octets c.args.points.now c.loop-point.point-index c.point-item.result
    c.push_number.new.octets.items c.loop-point.octets.items c.push_point.new.octets.items
    c.loop-point-test.true c.point-item.is c.loop-point.invariant c.in_ok-push_point.ensures
