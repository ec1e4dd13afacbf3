use Rattle.std.proofs.Common.{◌≡◌, drop}
use Rattle.bay_process.specs.Layout.{layout_of}
use Rattle.bay_process.specs.ModelRows.{rows_after_invalid}
use Rattle.bay_process.proofs.model.invalidate_inputs.Given as goal

abbrev pub invariant-loop-index : goal.invariant-loop-index
invariant-loop-index l = record {
  layout : layout_of l.tree ≡ layout_of l.initial.tree;
  written : rows_after_invalid (layout_of l.initial.tree) l.now l.inputs l.initial.tree
      ≡ rows_after_invalid (layout_of l.initial.tree) l.now (drop l.index l.inputs) l.tree;
}
