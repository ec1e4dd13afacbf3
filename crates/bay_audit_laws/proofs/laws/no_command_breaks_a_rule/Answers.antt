use Rattle.bay_audit_laws.proofs.LawLemmas.{commands-obey-all}
use Rattle.bay_audit_laws.proofs.laws.no_command_breaks_a_rule.Goals as goal

pub returns : goal.returns
returns c = commands-obey-all
