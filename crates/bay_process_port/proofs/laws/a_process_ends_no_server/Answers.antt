use Rattle.bay_process_port.proofs.LawLemmas.{is-readable}
use Rattle.bay_process_port.proofs.laws.a_process_ends_no_server.Goals as goal

pub returns : goal.returns
returns c = is-readable
