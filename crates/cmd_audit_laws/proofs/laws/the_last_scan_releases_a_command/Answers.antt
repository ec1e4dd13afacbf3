use Rattle.cmd_audit_laws.specs.Orders.{open_command}
use Rattle.cmd_audit_laws.proofs.ReleaseLemmas.{scan-releases, unchanged-releases, none-releases, blocked-releases-none, earlier-releases-none, old-releases-none, lost-releases-none, changed-releases-none}
use Rattle.cmd_audit_laws.proofs.laws.the_last_scan_releases_a_command.Goals as goal

pub returns-clause-released : goal.returns-clause-released
returns-clause-released l = scan-releases

pub returns-clause-unchanged : goal.returns-clause-unchanged
returns-clause-unchanged l = unchanged-releases

pub returns-clause-unscanned : goal.returns-clause-unscanned
returns-clause-unscanned l = λ s now age. none-releases s now age open_command

pub returns-clause-blocked : goal.returns-clause-blocked
returns-clause-blocked l = blocked-releases-none

pub returns-clause-earlier : goal.returns-clause-earlier
returns-clause-earlier l = earlier-releases-none

pub returns-clause-old : goal.returns-clause-old
returns-clause-old l = λ s t step age. old-releases-none s t step age open_command

pub returns-clause-lost : goal.returns-clause-lost
returns-clause-lost l = lost-releases-none

pub returns-clause-changed : goal.returns-clause-changed
returns-clause-changed l = changed-releases-none
