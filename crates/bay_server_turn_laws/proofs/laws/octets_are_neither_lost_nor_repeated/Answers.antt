use Rattle.bay_server_turn_laws.proofs.GivenLemmas.{turn-brings}
use Rattle.bay_server_turn_laws.proofs.RoomLemmas.{made-tidy}
use Rattle.bay_server_turn_laws.proofs.TurnFlows.{loses-nothing}
use Rattle.bay_server_turn_laws.proofs.laws.octets_are_neither_lost_nor_repeated.Goals as goal

pub returns-clause-octets : goal.returns-clause-octets
returns-clause-octets c = loses-nothing

pub returns-clause-received : goal.returns-clause-received
returns-clause-received c = λ now line script h a. turn-brings a now line script h

pub returns-clause-begins : goal.returns-clause-begins
returns-clause-begins c = made-tidy
