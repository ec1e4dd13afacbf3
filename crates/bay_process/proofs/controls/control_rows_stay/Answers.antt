use Rattle.bay_process.proofs.NodeLemmas.{control-rows-stay}
use Rattle.bay_process.proofs.controls.control_rows_stay.Goals as goal

pub returns : goal.returns
returns c = control-rows-stay
