use Rattle.std.proofs.Common.{◌≡◌, length}
use Rattle.bay_process.specs.Controls.{AreAllControlRows}
use Rattle.bay_process.proofs.controls.control_rows.Given as goal

abbrev pub invariant-loop-index : goal.invariant-loop-index
invariant-loop-index l = record {
  sized : length l.controls.items ≡ l.index;
  named : AreAllControlRows l.tree l.controls.items;
}
