use Rattle.bay_server_turn.specs.Calls.{CountedCall}
use Rattle.cmd_audit_laws.proofs.GuardLemmas.{guarded-harmless, guarded-obey}
use Rattle.cmd_audit_laws.proofs.laws.guarded_commands_obey.Goals as goal

pub returns : goal.returns
returns g c = record {
  rules = guarded-obey (CountedCall g.L.Link.does g.L.Link.failures) g.H.Host.does
      g.W.Sink.contents g.W.Sink.does g.F.FileSystem.reads g.F.FileSystem.guards;
  diagram = guarded-harmless (CountedCall g.L.Link.does g.L.Link.failures) g.H.Host.does
      g.W.Sink.contents g.W.Sink.does g.F.FileSystem.reads g.F.FileSystem.guards;
}
