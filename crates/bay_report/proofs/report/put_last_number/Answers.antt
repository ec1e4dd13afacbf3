use Rattle.bay_io.proofs.SentLemmas.{Puts-then}
use Rattle.bay_report.proofs.report.put_last_number.Goals as goal

pub returns : goal.returns
returns g c = Puts-then c.put_number.ensures c.put.ensures
