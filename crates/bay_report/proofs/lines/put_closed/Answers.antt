use Rattle.bay_io.proofs.SentLemmas.{Puts-nil}
use Rattle.bay_report.proofs.lines.put_closed.Goals as goal

pub returns-in-None : goal.returns-in-None
returns-in-None g c = rw c.in-None.is (Puts-nil _)
