use Rattle.bay_io.proofs.SentLemmas.{Puts-nil, Puts-then}
use Rattle.bay_report.proofs.lines.put_contact.Goals as goal

pub returns-in-Ok : goal.returns-in-Ok
returns-in-Ok g c s =
    rw c.in-Ok.is
    (Puts-then (Puts-then (Puts-then (Puts-then c.put_ended.ensures (Puts-nil _)) (Puts-nil _))
    (Puts-nil _)) (Puts-nil _))
