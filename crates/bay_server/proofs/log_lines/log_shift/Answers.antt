use Rattle.bay_server.proofs.LogLemmas.{logs-one}
use Rattle.bay_server.proofs.log_lines.log_shift.Goals as goal

pub returns-in-Near : goal.returns-in-Near
returns-in-Near g c =
    rw (c.in-Some.is, c.in-Near.is)
    (logs-one g.W.Sink.contents g.W.Sink.does _ _ _ c.log.ensures)

pub returns-in-Ahead : goal.returns-in-Ahead
returns-in-Ahead g c =
    rw (c.in-Some.is, c.in-Ahead.is)
    (logs-one g.W.Sink.contents g.W.Sink.does _ _ _ c.log-in-Ahead.ensures)

pub returns-in-Behind : goal.returns-in-Behind
returns-in-Behind g c =
    rw (c.in-Some.is, c.in-Behind.is)
    (logs-one g.W.Sink.contents g.W.Sink.does _ _ _ c.log-in-Behind.ensures)
