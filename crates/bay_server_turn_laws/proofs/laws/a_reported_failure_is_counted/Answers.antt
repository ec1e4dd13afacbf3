use Rattle.std.proofs.Common.{ap, sym, ◌∙◌}
use Rattle.bay_server_turn.specs.Turns.{turn_calls}
use Rattle.bay_server_turn_laws.specs.Faults.{reports_failure}
use Rattle.bay_server_turn_laws.proofs.BlameLemmas.{counts, only-failed}
use Rattle.bay_server_turn_laws.proofs.PartLemmas.{Part-turn}
use Rattle.bay_server_turn_laws.proofs.laws.a_reported_failure_is_counted.Goals as goal

pub returns : goal.returns
returns g c = λ old new now line source before after turn serves reported h.
    let calls = turn_calls now line serves.script before in
    let whole = Part-turn now line serves.script before in
    counts g.L.Link.does g.L.Link.failures old calls new serves.makes h
    (only-failed calls (whole.blames (sym (ap reports_failure serves.closed) ∙ reported)))
