use Rattle.std.proofs.Common.{◌≡◌, drop}
use Rattle.bay_process.specs.Layout.{layout_of, switches_of}
use Rattle.bay_process.specs.Scans.{rows_after_outputs}
use Rattle.bay_process.specs.ReportedRows.{AreStored}
use Rattle.bay_process.proofs.scan.write_outputs.Given as goal

abbrev pub invariant-loop-index : goal.invariant-loop-index
invariant-loop-index l = record {
  layout : layout_of l.tree ≡ layout_of l.initial.tree;
  written : rows_after_outputs (layout_of l.initial.tree) l.switches l.outputs l.now l.initial.tree
      ≡ rows_after_outputs (layout_of l.initial.tree) (drop l.index l.switches) l.outputs l.now
      l.tree;
  kept : AreStored l.tree (switches_of l.switches) l.index l.kept;
}
