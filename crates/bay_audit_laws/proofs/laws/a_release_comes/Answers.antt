use Rattle.bay_audit_laws.proofs.DueLemmas.{scans-are-due, scans-release}
use Rattle.bay_audit_laws.proofs.laws.a_release_comes.Goals as goal

pub returns : goal.returns
returns c = record {
  due = scans-are-due;
  at_once = scans-release;
}
