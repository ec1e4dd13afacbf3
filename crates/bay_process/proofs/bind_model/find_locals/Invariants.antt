use Rattle.std.proofs.Common.{◌≡◌, length}
use Rattle.bay_process.specs.Layout.{layout_of}
use Rattle.bay_process.specs.Nodes.{AreLocalRowsOf}
use Rattle.bay_process.proofs.bind_model.find_locals.Given as goal

abbrev pub invariant-loop-index : goal.invariant-loop-index
invariant-loop-index l = record {
  sized : length l.locals.items ≡ l.index;
  named : AreLocalRowsOf (layout_of l.tree) l.nodes l.controls l.locals.items;
}
