use Rattle.bay_server.proofs.LogLemmas.{logs-one}
use Rattle.bay_server.proofs.change_lines.log_end.Goals as goal

pub returns-in-Some : goal.returns-in-Some
returns-in-Some g c =
    rw c.in-Some.is
    (logs-one g.W.Sink.contents g.W.Sink.does _ _ _ (rw c.switch_id.ensures at c.log.ensures))
