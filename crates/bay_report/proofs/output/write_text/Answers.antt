use Rattle.std.proofs.Common.{refl}
use Rattle.bay_report.specs.Report.{IsOutput, code_of}
use Rattle.bay_report.proofs.ReportLemmas.{Prints-last}
use Rattle.bay_report.proofs.output.write_text.Goals as goal

pub returns : goal.returns
returns g c =
    Prints-last (IsOutput c.args.text.now (code_of c.args.status)) c.finish.new.writer
    (code_of c.args.status)
    c.finish.result (refl, refl)
    c.put.ensures c.finish.ensures.finishes c.finish.ensures.status
