use Rattle.std.proofs.Common.{sym}
use Rattle.cmd_audit.proofs.refusal.log_rule_fault.Goals as goal

pub returns : goal.returns
returns g c =
    rw (sym c.in-Some.ensures)
    (rw (c.from.ensures, c.line.ensures, c.as_bytes.ensures.value, c.words.ensures)
    at c.log.ensures)
