use Rattle.bay_audit_laws.proofs.LostLemmas.{lost-is-blind}
use Rattle.bay_audit_laws.proofs.laws.a_lost_process_releases_only_what_lost_does.Goals as goal

pub returns : goal.returns
returns c = lost-is-blind
