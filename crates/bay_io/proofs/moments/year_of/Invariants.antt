use Rattle.std.proofs.Common.{◌≡◌, ◌+◌, ◌-◌, ◌≤◌}
use Rattle.bay_io.specs.Moments.{year_from}
use Rattle.bay_io.proofs.moments.year_of.Given as goal

abbrev pub invariant-loop-i : goal.invariant-loop-i
invariant-loop-i l = record {
  within : l.i ≤ 8029;
  counted : l.year ≡ 1970 + l.i;
  less : l.left ≤ l.days;
  rest : year_from (8029 - l.i) l.year l.left ≡ year_from 8029 1970 l.days;
}
