use Rattle.std.proofs.Common.{◌<◌, [], ap, arith, length}
use Rattle.il_check.specs.declared.typed.Timer.{Timer}
use Rattle.il_image.proofs.MapLemmas.{mapped-turn}
use Rattle.il_compile.proofs.compile.kinds_of.Goals as goal

pub loop-timer-preserved : goal.loop-timer-preserved
loop-timer-preserved c =
    let within : c.loop-timer.timer-index < length c.args.timers.now = omega arith in
    mapped-turn (λ (t : Timer). t.kind) c.args.timers.now c.loop-timer.timer-index
    c.timer-item.result c.timer-item.result.kind [] c.loop-timer.kinds.items
    c.push.new.self.items c.loop-timer.invariant within
    (ap (λ (t : Timer). t.kind) c.timer-item.is) c.in_ok-push.ensures.items
