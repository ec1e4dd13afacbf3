use Rattle.std.proofs.Common.{◌≡◌, length}
use Rattle.bay_process.specs.Nodes.{AreSwitchNodes}
use Rattle.bay_process.proofs.nodes.all_nodes.Given as goal

abbrev pub invariant-loop-index : goal.invariant-loop-index
invariant-loop-index l = record {
  sized : length l.all.items ≡ l.index;
  named : AreSwitchNodes l.bay l.all.items;
}
