use Rattle.bay_io.proofs.SentLemmas.{Puts-nil}
use Rattle.bay_server.proofs.turns.put_refused.Goals as goal

pub returns-in-None : goal.returns-in-None
returns-in-None g c = rw c.in-None.is (Puts-nil _)
