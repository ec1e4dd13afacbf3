use Rattle.std.proofs.Common.{◌≡◌, length}
use Rattle.bay_process.specs.Layout.{layout_of}
use Rattle.bay_process.specs.ModelRows.{AreInputsBound}
use Rattle.bay_process.proofs.bind_model.find_inputs.Given as goal

abbrev pub invariant-loop-index : goal.invariant-loop-index
invariant-loop-index l = record {
  sized : length l.inputs.items ≡ l.index;
  bound : AreInputsBound (layout_of l.tree) 0 l.inputs.items;
}
