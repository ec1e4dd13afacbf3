use Rattle.std.proofs.Common.{Some}
use Rattle.bay_io.specs.Calls.{parts_text}
use Rattle.bay_report.proofs.ReportLemmas.{PrintsLogs-cut, PrintsLogs-told}
use Rattle.bay_report.proofs.log.write_and_log.Goals as goal

pub returns-in_err-status : goal.returns-in_err-status
returns-in_err-status g c =
    PrintsLogs-cut (Some (parts_text c.args.parts.now)) c.in_err-status.field-0.0
    c.from_residual.result c.from_residual.ensures.0 c.in_err-status.ensures

pub returns : goal.returns
returns g c =
    PrintsLogs-told (Some (parts_text c.args.parts.now)) c.in_ok-status.status
    c.in_ok-status.ensures c.log.ensures
