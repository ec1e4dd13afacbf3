use Rattle.bay_audit_laws.proofs.WaitLemmas.{commands-wait-all, scans-wait}
use Rattle.bay_audit_laws.proofs.laws.a_release_waits.Goals as goal

pub returns : goal.returns
returns c = record {
  scans = scans-wait;
  commands = commands-wait-all;
}
