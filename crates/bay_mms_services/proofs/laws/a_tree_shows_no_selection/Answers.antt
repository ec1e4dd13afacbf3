use Rattle.bay_mms_services.proofs.ShownLemmas.{shown-kept}
use Rattle.bay_mms_services.proofs.laws.a_tree_shows_no_selection.Goals as goal

pub returns : goal.returns
returns c = shown-kept
