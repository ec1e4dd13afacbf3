use Rattle.std.proofs.Common.{◌≡◌, take}
use Rattle.std.specs.Prelude.{map}
use Rattle.il_range.proofs.scan.delays_of.Given as goal

abbrev pub invariant-loop-timer : goal.invariant-loop-timer
invariant-loop-timer l = l.delays.items ≡ map (λ u. u.delay) (take l.timer-index l.timers)
