use Rattle.bay_server_turn.specs.Calls.{CountedCall}
use Rattle.cmd_audit_laws.proofs.ReleaseWaitLemmas.{guarded-scans-wait, replayed-scans-wait, served-scans-wait}
use Rattle.cmd_audit_laws.proofs.laws.each_release_waits.Goals as goal

pub returns : goal.returns
returns g c = record {
  served = served-scans-wait (CountedCall g.L.Link.does g.L.Link.failures) g.H.Host.does
      g.W.Sink.contents g.W.Sink.does g.F.FileSystem.reads g.F.FileSystem.guards;
  guarded = guarded-scans-wait (CountedCall g.L.Link.does g.L.Link.failures) g.H.Host.does
      g.W.Sink.contents g.W.Sink.does g.F.FileSystem.reads g.F.FileSystem.guards;
  replayed = replayed-scans-wait;
}
