use Rattle.std.proofs.Common.{sym, ◌∙◌}
use Rattle.bay_process.proofs.NodeLemmas.{not-lacking}
use Rattle.bay_process.proofs.controls.selected_at.Goals as goal

pub unreachable-requires : goal.unreachable-requires
unreachable-requires c =
    not-lacking c.args.tree.now _ c.requires (sym c.in_ok-handle.ensures ∙ c.in-None.is)
