use Rattle.std.proofs.Common.{◌≡◌, map, take}
use Rattle.il_compile.proofs.compile.kinds_of.Given as goal

abbrev pub invariant-loop-timer : goal.invariant-loop-timer
invariant-loop-timer l = l.kinds.items ≡ map (λ t. t.kind) (take l.timer-index l.timers)
