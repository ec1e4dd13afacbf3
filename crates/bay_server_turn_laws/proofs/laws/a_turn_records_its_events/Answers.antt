use Rattle.bay_server_turn_laws.proofs.RecordFlows.{turn-records}
use Rattle.bay_server_turn_laws.proofs.laws.a_turn_records_its_events.Goals as goal

pub returns : goal.returns
returns c = turn-records
