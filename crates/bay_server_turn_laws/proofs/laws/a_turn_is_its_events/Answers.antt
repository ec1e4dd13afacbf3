use Rattle.bay_server_turn_laws.proofs.OrderLemmas.{in-order}
use Rattle.bay_server_turn_laws.proofs.PartLemmas.{Part-turn}
use Rattle.bay_server_turn_laws.proofs.laws.a_turn_is_its_events.Goals as goal

pub returns-clause-events : goal.returns-clause-events
returns-clause-events c = λ now line script h.
    let whole = Part-turn now line script h in
    record { device = whole.device; commands = whole.commands }

pub returns-clause-order : goal.returns-clause-order
returns-clause-order c = in-order
