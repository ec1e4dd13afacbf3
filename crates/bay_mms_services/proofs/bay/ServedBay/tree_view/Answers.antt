use Rattle.std.proofs.Common.{ap, ◌∙◌}
use Rattle.bay_control.specs.Decisions.{selected_switch}
use Rattle.bay_mms_services.specs.Bay.{rows_with_selection}
use Rattle.bay_mms_services.proofs.ShownLemmas.{marked-seen}
use Rattle.bay_mms_services.proofs.bay.ServedBay.tree_view.Goals as goal

pub returns-clause-rows : goal.returns-clause-rows
returns-clause-rows c =
    let d = c.args.self.now in
    let o = selected_switch c.args.controls.now.selection in
    rw (c.mark.ensures.row, c.selected.ensures) at c.new.ensures.rows
    ∙ marked-seen d.control_rows d.tree o c.are_a_tree.ensures d.controlled c.mark.ensures.few
    (rw d.sized d.quiet)
    ∙ ap (λ n. rows_with_selection o n d.tree) d.sized
