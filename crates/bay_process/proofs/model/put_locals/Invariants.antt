use Rattle.std.proofs.Common.{◌≡◌, drop}
use Rattle.bay_process.specs.Layout.{layout_of}
use Rattle.bay_process.specs.ModelRows.{rows_after_locals}
use Rattle.bay_process.proofs.model.put_locals.Given as goal

abbrev pub invariant-loop-index : goal.invariant-loop-index
invariant-loop-index l = record {
  layout : layout_of l.tree ≡ layout_of l.initial.tree;
  written : rows_after_locals (layout_of l.initial.tree) l.input l.value l.quality l.now l.locals
      l.initial.tree
      ≡ rows_after_locals (layout_of l.initial.tree) l.input l.value l.quality l.now
      (drop l.index l.locals)
      l.tree;
}
