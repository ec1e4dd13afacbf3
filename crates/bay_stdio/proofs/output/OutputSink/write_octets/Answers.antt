use Rattle.std.proofs.Common.{sym}
use Rattle.bay_stdio.proofs.OutputLemmas.{unqueued}
use Rattle.bay_stdio.proofs.output.OutputSink.write_octets.Goals as goal

pub returns-in-None-clause-bytes : goal.returns-in-None-clause-bytes
returns-in-None-clause-bytes g c =
    rw (sym c.self.view_is)
    (unqueued _ _ _ _ _ c.in-None.is c.write_octets.ensures.bytes)
