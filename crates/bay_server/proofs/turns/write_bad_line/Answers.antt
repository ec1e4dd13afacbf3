use Rattle.std.proofs.Common.{refl}
use Rattle.bay_report.specs.Lines.{unreadable_text}
use Rattle.bay_report.specs.Report.{IsOutput}
use Rattle.bay_report.proofs.ReportLemmas.{Prints-last}
use Rattle.bay_server.proofs.turns.write_bad_line.Goals as goal

pub returns : goal.returns
returns g c =
    Prints-last (IsOutput (unreadable_text c.args.number) 3) c.finish.new.writer 3 c.finish.result
    (refl, refl) c.put_unreadable.ensures
    c.finish.ensures.finishes c.finish.ensures.status
