use Rattle.bay_process_port.proofs.UseLemmas.{loses-no-line}
use Rattle.bay_process_port.proofs.laws.a_process_loses_no_line.Goals as goal

pub returns : goal.returns
returns c = loses-no-line
