use Rattle.bay_process_port.proofs.SupervisionLemmas.{is-of-this-bay}
use Rattle.bay_process_port.proofs.laws.a_supervised_process_is_of_this_bay.Goals as goal

pub returns : goal.returns
returns c = is-of-this-bay
