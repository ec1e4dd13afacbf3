use Rattle.bay_server_turn.specs.Calls.{CountedCall}
use Rattle.cmd_audit_laws.proofs.ServeLemmas.{served-obey}
use Rattle.cmd_audit_laws.proofs.laws.served_commands_obey.Goals as goal

pub returns : goal.returns
returns g c = served-obey (CountedCall g.L.Link.does g.L.Link.failures) g.H.Host.does
    g.W.Sink.contents g.W.Sink.does g.F.FileSystem.reads g.F.FileSystem.guards
