use Rattle.bay_audit.specs.Rules.{directions}
use Rattle.cmd_audit.specs.Written.{PutsReleases}
use Rattle.cmd_audit.proofs.written.write_releases.Given as goal

abbrev pub invariant-loop-switch : goal.invariant-loop-switch
invariant-loop-switch g l =
    PutsReleases g.W.Sink.contents g.W.Sink.does l.bay l.names l.program
    (directions l.switch) l.releases.items l.fn.writer l.writer
