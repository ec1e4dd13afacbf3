use Rattle.bay_server_turn.specs.Calls.{CountedCall}
use Rattle.cmd_audit_laws.proofs.PortTurnLemmas.{turns-use-port}
use Rattle.cmd_audit_laws.proofs.laws.a_process_of_a_service_is_of_its_bay.Goals as goal

pub returns : goal.returns
returns g c = λ settings turns before old host new answer serves begun supervised.
    turns-use-port (CountedCall g.L.Link.does g.L.Link.failures) g.H.Host.does g.W.Sink.contents
    g.W.Sink.does settings turns before old host new answer serves begun supervised
