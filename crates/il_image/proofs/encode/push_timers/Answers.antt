use Rattle.il_image.specs.Images.{timer_octets}
use Rattle.il_image.specs.declared.opcode.Version.TheVariants.{Two}
use Rattle.il_image.proofs.EachLemmas.{each-turn-at}
use Rattle.il_image.proofs.encode.push_timers.Goals as goal

pub loop-kind-preserved : goal.loop-kind-preserved
loop-kind-preserved c =
    each-turn-at (timer_octets Two) c.args.kinds.now c.loop-kind.kind-index _
    c.push_number.new.octets.items c.loop-kind.octets.items c.push_timer.new.octets.items
    c.loop-kind-test.true c.loop-kind.invariant c.in_ok-push_timer.ensures
