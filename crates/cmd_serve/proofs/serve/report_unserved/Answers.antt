use Rattle.cmd_serve.proofs.serve.report_unserved.Goals as goal

pub returns-in-Unbound : goal.returns-in-Unbound
returns-in-Unbound g c = rw c.in-Unbound.is c.report_unbound.ensures

pub returns-in-Unrecorded : goal.returns-in-Unrecorded
returns-in-Unrecorded g c = rw c.in-Unrecorded.is c.report_unrecorded.ensures
