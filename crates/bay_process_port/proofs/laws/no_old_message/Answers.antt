use Rattle.bay_process_port.proofs.SupervisionLemmas.{is-on-time}
use Rattle.bay_process_port.proofs.laws.no_old_message.Goals as goal

pub returns : goal.returns
returns c = is-on-time
