use Rattle.std.proofs.Common.{length}
use Rattle.bay_control.specs.Decisions.{selected_switch}
use Rattle.bay_mms_services.proofs.ShownLemmas.{shown-others, shown-own}
use Rattle.bay_mms_services.proofs.laws.a_read_shows_the_selection.Goals as goal

pub returns-clause-shown : goal.returns-clause-shown
returns-clause-shown c b controls k low few there =
    shown-own (selected_switch controls.selection) k (length b.switches) b.rows low few there

pub returns-clause-others : goal.returns-clause-others
returns-clause-others c b controls name other =
    shown-others (selected_switch controls.selection) (length b.switches) b.rows name other
