use Rattle.std.proofs.Common.{◌≡◌, ◌++◌, drop}
use Rattle.il_scan.specs.PointIndices.{read_indices, write_indices}
use Rattle.il_scan.proofs.slots.point_indices.Given as goal

abbrev pub invariant-loop-place : goal.invariant-loop-place
invariant-loop-place l = record {
  read : l.reads.items ++ read_indices l.place (drop l.place l.points) ≡ read_indices 0 l.points;
  written : l.writes.items ++ write_indices l.place (drop l.place l.points)
      ≡ write_indices 0 l.points;
}
