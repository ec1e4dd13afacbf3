use Rattle.std.proofs.Common.{◌+◌, ◌≤◌, sym, subst}
use Rattle.bay_server_turn.specs.Turns.{after_turn}
use Rattle.bay_server_turn_laws.specs.CloseReports.{times_reported}
use Rattle.bay_server_turn_laws.proofs.TellingLemmas.{told-once}
use Rattle.bay_server_turn_laws.proofs.laws.an_association_is_reported_once.Goals as goal
use Rattle.bay_server_turn_laws.proofs.ReadingLemmas.{few-read}

pub returns : goal.returns
returns g c = λ old new now line source before after turn slot serves.
    let reported = (after_turn now line serves.script before).noted in
    subst (λ closed. times_reported (slot + 1) closed turn.memory ≤ 1) (sym serves.closed)
    (subst (λ memory. times_reported (slot + 1) reported.closed memory ≤ 1) (sym serves.memory)
    (told-once now line serves.script before slot (few-read line _ serves.all_read) serves.all_offered))
