use Rattle.std.proofs.Common.{◌≡◌, ◌≤◌, nat_eq}
use Rattle.std.specs.Cmp.Lexicographic.{pointwise}
use Rattle.bay_process_port.proofs.KeyLemmas.{compared}
use Rattle.bay_process_port.proofs.introduction.is_same_key.Given as goal

abbrev pub invariant-loop-i : goal.invariant-loop-i
invariant-loop-i l = record {
  few : l.differences ≤ l.i;
  same : pointwise nat_eq l.given l.key ≡ compared l.differences l.i l.given l.key;
}
