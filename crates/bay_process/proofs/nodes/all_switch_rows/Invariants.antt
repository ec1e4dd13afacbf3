use Rattle.std.proofs.Common.{◌≡◌, length}
use Rattle.bay_process.specs.Layout.{layout_of}
use Rattle.bay_process.specs.Nodes.{AreRowsOfNodes}
use Rattle.bay_process.proofs.nodes.all_switch_rows.Given as goal

abbrev pub invariant-loop-i : goal.invariant-loop-i
invariant-loop-i l = record {
  sized : length l.rows.items ≡ l.i;
  named : AreRowsOfNodes (layout_of l.tree) l.nodes l.rows.items;
}
