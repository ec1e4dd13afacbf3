use Rattle.bay_process_port.proofs.WatchLemmas.{is-heard}
use Rattle.bay_process_port.proofs.laws.a_silent_process_is_lost.Goals as goal

pub returns : goal.returns
returns c = is-heard
