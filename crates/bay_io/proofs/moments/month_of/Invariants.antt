use Rattle.std.proofs.Common.{◌≡◌, ◌+◌, ◌-◌, ◌≤◌}
use Rattle.bay_io.specs.Moments.{month_from}
use Rattle.bay_io.proofs.moments.month_of.Given as goal

abbrev pub invariant-loop-i : goal.invariant-loop-i
invariant-loop-i l = record {
  within : l.i ≤ 11;
  counted : l.month ≡ 1 + l.i;
  less : l.left ≤ l.days;
  rest : month_from (11 - l.i) l.year l.month l.left ≡ month_from 11 l.year 1 l.days;
}
