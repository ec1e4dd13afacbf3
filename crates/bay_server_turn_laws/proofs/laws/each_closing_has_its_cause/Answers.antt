use Rattle.bay_server_turn_laws.proofs.CauseFlows.{has-its-cause}
use Rattle.bay_server_turn_laws.proofs.laws.each_closing_has_its_cause.Goals as goal

pub returns : goal.returns
returns c = has-its-cause
