use Rattle.bay_server_turn_laws.proofs.RoomLemmas.{holds-turn, made-in-room}
use Rattle.bay_server_turn_laws.proofs.laws.queues_stay_in_their_room.Goals as goal

pub returns-clause-begins : goal.returns-clause-begins
returns-clause-begins c = made-in-room

pub returns-clause-stays : goal.returns-clause-stays
returns-clause-stays c = λ now line script h. holds-turn now line script h
