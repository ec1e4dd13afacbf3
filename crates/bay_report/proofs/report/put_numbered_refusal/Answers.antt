use Rattle.std.proofs.Common.{◌++◌, ap, codes}
use Rattle.std.specs.Fmt.{decimal}
use Rattle.bay_io.proofs.SentLemmas.{Puts-as, Puts-then}
use Rattle.bay_report.proofs.report.put_numbered_refusal.Goals as goal

pub returns : goal.returns
returns g c = rw c.if-line-ne0.false
    (Puts-then c.put.ensures (Puts-as _ (ap (λ n. decimal n ++ codes "\n") c.from.ensures)
    c.put_last_number.ensures))
