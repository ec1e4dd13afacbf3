use Rattle.std.proofs.Common.{◌≡◌, ◌++◌, length}
use Rattle.bay_process.specs.Layout.{bound_from}
use Rattle.bay_process.proofs.bind.bind_switches.Given as goal

abbrev pub invariant-loop-switch : goal.invariant-loop-switch
invariant-loop-switch l = record {
  counted : length l.bound.items ≡ length l.yielded;
  whole : l.fn.switches.items ≡ l.yielded ++ l.switch-iterator.rest.items;
  done : l.bound.items ≡ bound_from l.writes 0 l.yielded l.rows;
}
