use Rattle.std.proofs.Common.{◌++◌, None, codes, refl}
use Rattle.std.specs.Fmt.{decimal}
use Rattle.bay_io.proofs.SentLemmas.{Puts-then}
use Rattle.bay_report.specs.LogLines.{IsLoggedOutput}
use Rattle.bay_report.proofs.ReportLemmas.{Prints-alone, Prints-last}
use Rattle.cmd_audit.proofs.judging.write_count.Goals as goal

pub returns : goal.returns
returns g c =
    Prints-alone _
    (Prints-last (IsLoggedOutput None (codes "rules " ++ (decimal c.args.count ++ codes "\n")) 0
    None)
    c.finish.new.writer 0 _ (refl, (refl, refl))
    (Puts-then c.put.ensures (Puts-then c.put_number.ensures c.put-2.ensures))
    c.finish.ensures.finishes c.finish.ensures.status)
