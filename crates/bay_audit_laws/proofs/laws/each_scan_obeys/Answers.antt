use Rattle.bay_audit_laws.proofs.LawLemmas.{scans-obey}
use Rattle.bay_audit_laws.proofs.laws.each_scan_obeys.Goals as goal

pub returns : goal.returns
returns c = scans-obey
