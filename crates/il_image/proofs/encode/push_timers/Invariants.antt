use Rattle.std.proofs.Common.{◌≡◌, ◌++◌, take}
use Rattle.il_image.specs.Images.{each_spelled, timer_octets}
use Rattle.il_image.specs.declared.opcode.Version.TheVariants.{Two}
use Rattle.il_image.proofs.encode.push_timers.Given as goal

abbrev pub invariant-loop-kind : goal.invariant-loop-kind
invariant-loop-kind l =
    l.octets.items ≡ l.initial.octets.items
    ++ each_spelled (timer_octets Two) (take l.kind-index l.kinds)
