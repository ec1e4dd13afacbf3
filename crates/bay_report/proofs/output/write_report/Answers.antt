use Rattle.std.proofs.Common.{refl}
use Rattle.bay_report.specs.Report.{IsOutput, report_text}
use Rattle.bay_report.proofs.ReportLemmas.{Prints-last}
use Rattle.bay_report.proofs.output.write_report.Goals as goal

pub returns : goal.returns
returns g c =
    Prints-last (IsOutput (report_text c.args.report) 0) c.finish.new.writer 0 c.finish.result (
      refl,
      refl,
    ) c.put_report.ensures
    c.finish.ensures.finishes c.finish.ensures.status
