use Rattle.std.proofs.Common.{◌++◌, ap, codes}
use Rattle.std.specs.Fmt.{decimal}
use Rattle.bay_io.proofs.SentLemmas.{Puts-as, Puts-then}
use Rattle.bay_report.proofs.report.put_report.Goals as goal

pub returns : goal.returns
returns g c =
    Puts-then (Puts-then (Puts-then (Puts-then (Puts-then c.put.ensures
    (Puts-as _ (ap decimal c.from.ensures) c.put_number.ensures)) c.put-2.ensures)
    (Puts-as _ (ap decimal c.from-2.ensures) c.put_number-2.ensures)) c.put-3.ensures)
    (Puts-as _ (ap (λ n. decimal n ++ codes "\n") c.from-3.ensures) c.put_last_number.ensures)
