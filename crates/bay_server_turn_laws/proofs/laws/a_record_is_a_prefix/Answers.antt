use Rattle.bay_server_turn_laws.proofs.RecordLemmas.{over-stays, records-turn, takes-lines}
use Rattle.bay_server_turn_laws.proofs.laws.a_record_is_a_prefix.Goals as goal

pub returns-clause-lines : goal.returns-clause-lines
returns-clause-lines c = takes-lines

pub returns-clause-ended : goal.returns-clause-ended
returns-clause-ended c = over-stays

pub returns-clause-turn : goal.returns-clause-turn
returns-clause-turn c = records-turn
