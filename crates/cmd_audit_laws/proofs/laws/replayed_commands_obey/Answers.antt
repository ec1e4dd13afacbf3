use Rattle.cmd_audit_laws.proofs.ReplayLemmas.{replayed-obey}
use Rattle.cmd_audit_laws.proofs.laws.replayed_commands_obey.Goals as goal

pub returns : goal.returns
returns c = replayed-obey
