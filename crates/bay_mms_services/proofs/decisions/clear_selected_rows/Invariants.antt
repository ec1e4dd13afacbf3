use Rattle.std.proofs.Common.{◌≡◌, None}
use Rattle.bay_process.specs.Layout.{layout_of}
use Rattle.bay_mms_services.specs.Bay.{rows_with_selection}
use Rattle.bay_mms_services.proofs.decisions.clear_selected_rows.Given as goal

abbrev pub invariant-loop-switch : goal.invariant-loop-switch
invariant-loop-switch l = record {
  rows : l.tree ≡ rows_with_selection None l.switch l.initial.tree;
  layout : layout_of l.tree ≡ layout_of l.initial.tree;
}
