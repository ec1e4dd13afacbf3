use Rattle.std.proofs.Common.{◌-◌, length}
use Rattle.il_scan.specs.MachineStates.{first_state}
use Rattle.il_scan.specs.WordEffects.{words}
use Rattle.il_scan.proofs.RunLemmas.{Comes}
use Rattle.il_scan.proofs.run.run.Given as goal

abbrev pub invariant-loop-next : goal.invariant-loop-next
invariant-loop-next l =
    Comes l.image l.now (first_state l.image l.fn.slots l.fn.timers) l.offset l.steps
    (words l.stack l.slots l.timers)

-- the octets that are left
abbrev pub decreases-loop-next : goal.decreases-loop-next
decreases-loop-next l = length l.code - l.offset
