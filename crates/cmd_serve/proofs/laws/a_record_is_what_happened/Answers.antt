use Rattle.bay_server_turn.specs.Calls.{CountedCall}
use Rattle.cmd_serve.proofs.RecordLemmas.{record-kept}
use Rattle.cmd_serve.proofs.laws.a_record_is_what_happened.Goals as goal

pub returns : goal.returns
returns g c = λ turns before old new host answer serves.
    record-kept (CountedCall g.L.Link.does g.L.Link.failures) g.H.Host.does g.W.Sink.contents
    g.W.Sink.does turns before old host new answer serves
