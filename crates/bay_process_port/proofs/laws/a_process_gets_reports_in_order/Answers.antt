use Rattle.bay_process_port.proofs.LawLemmas.{tells-in-order}
use Rattle.bay_process_port.proofs.laws.a_process_gets_reports_in_order.Goals as goal

pub returns : goal.returns
returns c = tells-in-order
