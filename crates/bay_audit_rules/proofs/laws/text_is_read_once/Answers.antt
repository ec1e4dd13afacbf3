use Rattle.bay_audit_rules.proofs.LawLemmas.{one-reading}
use Rattle.bay_audit_rules.proofs.laws.text_is_read_once.Goals as goal

pub returns : goal.returns
returns c = one-reading
