use Rattle.std.proofs.Common.{ap}
use Rattle.std.specs.Prelude.{is_some}
use Rattle.bay_audit.proofs.until.answer_by_bearing_timer.Goals as goal

pub returns-in-Some : goal.returns-in-Some
returns-in-Some c =
    let both = c.in_ok-more.ensures (ap is_some c.in-Some.is) in
    record { delay_met = both.0; necessary_met = c.requires; idle_met = both.1 }
