use Rattle.bay_process_port.proofs.ReleaseLemmas.{is-up-to-date}
use Rattle.bay_process_port.proofs.laws.a_process_knows_the_releases.Goals as goal

pub returns : goal.returns
returns c = is-up-to-date
