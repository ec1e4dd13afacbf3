use Rattle.std.proofs.Common.{refl}
use Rattle.bay_report.specs.Report.{IsOutput, load_refusal_text}
use Rattle.bay_report.proofs.ReportLemmas.{Prints-last}
use Rattle.bay_report.proofs.output.write_refusal.Goals as goal

pub returns : goal.returns
returns g c =
    Prints-last (IsOutput (load_refusal_text c.args.error) 1) c.finish.new.writer 1 c.finish.result
    (refl, refl)
    c.put_load_refusal.ensures
    c.finish.ensures.finishes c.finish.ensures.status
