use Rattle.bay_io.proofs.SentLemmas.{Puts-then}
use Rattle.bay_server.proofs.turns.put_opened.Goals as goal

pub returns : goal.returns
returns g c = Puts-then c.put_number.ensures c.put.ensures
