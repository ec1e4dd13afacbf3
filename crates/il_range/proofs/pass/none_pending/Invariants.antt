use Rattle.std.proofs.Common.{◌≡◌, length}
use Rattle.il_range.proofs.pass.none_pending.Given as goal

abbrev pub invariant-loop : goal.invariant-loop
invariant-loop l = length l.pending.items ≡ l.counter
