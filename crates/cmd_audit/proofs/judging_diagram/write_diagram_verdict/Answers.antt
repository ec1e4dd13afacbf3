use Rattle.std.proofs.Common.{None}
use Rattle.bay_report.proofs.ReportLemmas.{Prints-alone, with-line}
use Rattle.cmd_audit.proofs.judging_diagram.write_diagram_verdict.Goals as goal

pub returns-in-Unproved : goal.returns-in-Unproved
returns-in-Unproved g c =
    rw c.in-Unproved.is
    (Prints-alone _ (with-line None (rw c.as_slice.ensures.value at c.write_text.ensures)))
