use Rattle.std.proofs.Common.{◌≡◌, take}
use Rattle.std.specs.Prelude.{map}
use Rattle.il_image.specs.Timers.{first_state}
use Rattle.il_scan.proofs.slots.first_timers.Given as goal

abbrev pub invariant-loop-kind : goal.invariant-loop-kind
invariant-loop-kind l = l.timers.items ≡ map first_state (take l.kind-index l.kinds)
