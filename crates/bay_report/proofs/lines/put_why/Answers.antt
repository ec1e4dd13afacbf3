use Rattle.std.proofs.Common.{ap}
use Rattle.std.specs.Fmt.{decimal}
use Rattle.bay_io.proofs.SentLemmas.{Puts-as, Puts-then}
use Rattle.bay_report.proofs.lines.put_why.Goals as goal

pub returns-in-Fault : goal.returns-in-Fault
returns-in-Fault g c = rw c.in-Fault.is
    (Puts-then (Puts-as _ (ap decimal c.from.ensures) c.put_number.ensures) c.put-in-Fault.ensures)
