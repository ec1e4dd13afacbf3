use Rattle.bay_server_turn_laws.proofs.FullFlows.{told-where-full}
use Rattle.bay_server_turn_laws.proofs.laws.a_full_queue_is_reported.Goals as goal

pub returns : goal.returns
returns c = told-where-full
