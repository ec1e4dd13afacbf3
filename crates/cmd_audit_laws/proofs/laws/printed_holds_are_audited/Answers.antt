use Rattle.cmd_audit_laws.proofs.HoldLemmas.{holds-audited}
use Rattle.cmd_audit_laws.proofs.laws.printed_holds_are_audited.Goals as goal

pub returns : goal.returns
returns c = holds-audited
