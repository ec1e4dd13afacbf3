use Rattle.std.proofs.Common.{◌<◌, [], arith, length, pos, refl, false}
use Rattle.bay_base.specs.declared.types.ElementaryType.TheVariants.{Bool}
use Rattle.il_image.proofs.MapLemmas.{mapped-turn}
use Rattle.il_scan.proofs.slots.push_zeros.Goals as goal

pub loop-preserved : goal.loop-preserved
loop-preserved c =
    let within : c.loop.index < length c.args.points.now = omega arith in
    mapped-turn (λ _. pos 0) c.args.points.now c.loop.index
    (record { name = []; elementary = Bool; writable = false }) (pos 0) c.args.slots.now.items
    c.loop.slots.items c.push.new.self.items c.loop.invariant within refl
    c.in_ok-push.ensures.items
