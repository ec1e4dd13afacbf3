use Rattle.bay_report.specs.LogLines.{load_refusal_log}
use Rattle.bay_report.proofs.ReportLemmas.{PrintsLogs-cut, PrintsLogs-told}
use Rattle.bay_report.proofs.log.report_load_refusal.Goals as goal

pub returns-in_err-status : goal.returns-in_err-status
returns-in_err-status g c =
    PrintsLogs-cut (load_refusal_log c.args.error) c.in_err-status.field-0.0
    c.from_residual.result c.from_residual.ensures.0 c.in_err-status.ensures

pub returns : goal.returns
returns g c =
    PrintsLogs-told (load_refusal_log c.args.error) c.in_ok-status.status
    c.in_ok-status.ensures c.log_refusal.ensures
