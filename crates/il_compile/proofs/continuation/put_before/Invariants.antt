use Rattle.std.proofs.Common.{◌≡◌, ◌+◌, ◌≤◌, ◌++◌, min, reverse}
use Rattle.il_compile.specs.Code as spec
use Rattle.il_compile.proofs.continuation.put_before.Given as goal
use Rattle.il_compile.specs.Continuation.{octets_bound}

abbrev pub invariant-loop-instr : goal.invariant-loop-instr
invariant-loop-instr l = record {
  bounded : l.all ≤ octets_bound;
  counted : min (l.all + spec.octets l.pending.items) octets_bound
      ≡ min (l.initial.all + spec.octets l.initial.pending.items) octets_bound;
  before : l.pending.items ++ reverse l.continuation.items
      ≡ l.initial.pending.items ++ reverse l.initial.continuation.items;
}

abbrev pub decreases-loop-instr : goal.decreases-loop-instr
decreases-loop-instr l = goal.left-loop-instr l
