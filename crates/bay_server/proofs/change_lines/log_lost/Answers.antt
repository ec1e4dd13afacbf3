use Rattle.bay_server.proofs.LogLemmas.{logs-one}
use Rattle.bay_server.proofs.change_lines.log_lost.Goals as goal

pub returns-then-reported : goal.returns-then-reported
returns-then-reported g c =
    rw (c.in-Ok.is, c.if-reported.true)
    (logs-one g.W.Sink.contents g.W.Sink.does _ _ _ c.log.ensures)
