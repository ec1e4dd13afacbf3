use Rattle.std.proofs.Common.{◌≡◌, ◌++◌, drop, length, map, take}
use Rattle.il_scan.specs.OutputValues.{output_value}
use Rattle.il_scan.proofs.slots.copy_outputs.Given as goal

abbrev pub invariant-loop-k : goal.invariant-loop-k
invariant-loop-k l = record {
  given : map (output_value l.points l.slots) l.writes
      ≡ take l.k l.outputs ++ map (output_value l.points l.slots) (drop l.k l.writes);
  sized : length l.outputs ≡ length l.writes;
}
