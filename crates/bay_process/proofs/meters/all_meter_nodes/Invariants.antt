use Rattle.std.proofs.Common.{◌≡◌, length}
use Rattle.bay_process.specs.Nodes.{AreMeterNodes}
use Rattle.bay_process.proofs.meters.all_meter_nodes.Given as goal

abbrev pub invariant-loop-index : goal.invariant-loop-index
invariant-loop-index l = record {
  sized : length l.all.items ≡ l.index;
  named : AreMeterNodes l.bay l.all.items;
}
