use Rattle.bay_mms_services.proofs.AcceptedLemmas.{response-tells}
use Rattle.bay_mms_services.proofs.laws.answers_show_decisions.Goals as goal

pub returns : goal.returns
returns c = response-tells
