use Rattle.std.proofs.Common.{◌<◌, [], arith, length}
use Rattle.il_image.specs.Timers.{first_state}
use Rattle.il_image.proofs.MapLemmas.{mapped-turn}
use Rattle.il_scan.proofs.slots.first_timers.Goals as goal

pub loop-kind-preserved : goal.loop-kind-preserved
loop-kind-preserved c =
    let within : c.loop-kind.kind-index < length c.args.kinds.now = omega arith in
    mapped-turn first_state c.args.kinds.now c.loop-kind.kind-index _ c.new.result []
    c.loop-kind.timers.items c.push.new.self.items c.loop-kind.invariant within c.new.ensures
    c.in_ok-push.ensures.items
