use Rattle.bay_server.proofs.LogLemmas.{logs-one}
use Rattle.bay_server.proofs.record_line.log_record.Goals as goal

pub returns : goal.returns
returns g c =
    rw c.in-Some.is
    (logs-one g.W.Sink.contents g.W.Sink.does _ _ _ (rw c.end_words.ensures at c.log.ensures))
