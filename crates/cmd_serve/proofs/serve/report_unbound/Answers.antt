use Rattle.std.proofs.Common.{Some}
use Rattle.bay_report.proofs.ReportLemmas.{PrintsLogs-cut, PrintsLogs-told}
use Rattle.bay_server.specs.LogLines.{unbound_log}
use Rattle.cmd_serve.proofs.serve.report_unbound.Goals as goal

pub returns-in_err-status : goal.returns-in_err-status
returns-in_err-status g c =
    PrintsLogs-cut (Some (unbound_log c.args.port c.args.fault)) c.in_err-status.field-0.0
    c.from_residual.result c.from_residual.ensures.0 c.in_err-status.ensures

pub returns : goal.returns
returns g c =
    PrintsLogs-told (Some (unbound_log c.args.port c.args.fault)) c.in_ok-status.status
    c.in_ok-status.ensures c.log_unbound.ensures
