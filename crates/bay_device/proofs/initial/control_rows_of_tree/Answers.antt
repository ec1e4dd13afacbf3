use Rattle.std.proofs.Common.{sym}
use Rattle.bay_mms_services.proofs.PlaceLemmas.{rows-kept}
use Rattle.bay_device.proofs.initial.control_rows_of_tree.Goals as goal

pub clear_selected_rows-requires : goal.clear_selected_rows-requires
clear_selected_rows-requires c = rw c.as_slice.ensures.value c.in_ok-rows.ensures.named

pub returns-clause-named : goal.returns-clause-named
returns-clause-named c =
    rw c.new.ensures (rows-kept c.clear_selected_rows.new.tree c.args.tree.now
    c.in_ok-rows.rows.items
    (sym c.clear_selected_rows.ensures.layout) c.in_ok-rows.ensures.named)
