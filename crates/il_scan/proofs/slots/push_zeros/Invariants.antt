use Rattle.std.proofs.Common.{◌≡◌, ◌++◌, pos, take}
use Rattle.std.specs.Prelude.{map}
use Rattle.il_scan.proofs.slots.push_zeros.Given as goal

abbrev pub invariant-loop : goal.invariant-loop
invariant-loop l = l.slots.items ≡ l.initial.slots.items ++ map (λ _. pos 0) (take l.index l.points)
