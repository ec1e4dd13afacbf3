use Rattle.bay_server.proofs.LogLemmas.{logs-one}
use Rattle.bay_server.proofs.record_line.log_room.Goals as goal

pub returns : goal.returns
returns g c =
    rw c.in-Some.is
    (logs-one g.W.Sink.contents g.W.Sink.does _ _ _
    (rw (c.from.ensures, c.from-2.ensures, c.from-3.ensures) at c.log.ensures))
