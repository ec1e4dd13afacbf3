use Rattle.bay_io.proofs.SentLemmas.{Puts-then}
use Rattle.bay_report.proofs.lines.put_unreadable.Goals as goal

pub returns : goal.returns
returns g c = Puts-then (Puts-then (c.put.ensures) (c.put_number.ensures)) (c.put-2.ensures)
