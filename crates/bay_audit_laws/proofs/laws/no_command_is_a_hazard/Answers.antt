use Rattle.bay_audit_laws.proofs.LawLemmas.{commands-are-harmless}
use Rattle.bay_audit_laws.proofs.laws.no_command_is_a_hazard.Goals as goal

pub returns : goal.returns
returns c = commands-are-harmless
