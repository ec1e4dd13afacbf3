use Rattle.bay_process_port.proofs.LawLemmas.{is-silent}
use Rattle.bay_process_port.proofs.laws.a_closed_process_reports_nothing.Goals as goal

pub returns : goal.returns
returns c = is-silent
