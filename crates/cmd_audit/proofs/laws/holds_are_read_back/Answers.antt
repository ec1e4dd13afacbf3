use Rattle.cmd_audit.proofs.DiagramLineLemmas.{no-judgement-is-read}
use Rattle.cmd_audit.proofs.HoldLemmas.{holds-are-read}
use Rattle.cmd_audit.proofs.laws.holds_are_read_back.Goals as goal

pub returns-clause-rules : goal.returns-clause-rules
returns-clause-rules c = holds-are-read

pub returns-clause-diagram : goal.returns-clause-diagram
returns-clause-diagram c = no-judgement-is-read
