use Rattle.std.proofs.Common.{refl}
use Rattle.bay_report.specs.Report.{IsOutput}
use Rattle.bay_report.proofs.ReportLemmas.{Prints-last, PrintsLogs-cut, PrintsLogs-told}
use Rattle.cmd_audit.specs.Refusals.{refusal_line, refusal_log}
use Rattle.cmd_audit.proofs.refusal.write_refusal.Goals as goal

pub returns-in_err-status : goal.returns-in_err-status
returns-in_err-status g c =
    PrintsLogs-cut (refusal_log c.args.refusal) c.in_err-status.field-0.0 c.from_residual.result
    c.from_residual.ensures.0
    (Prints-last (IsOutput (refusal_line c.args.refusal) 1) c.finish.new.writer 1 _ (refl, refl)
    c.put_refusal.ensures c.in_err-status.ensures.finishes c.in_err-status.ensures.status)

pub returns : goal.returns
returns g c =
    PrintsLogs-told (refusal_log c.args.refusal) c.in_ok-status.status
    (Prints-last (IsOutput (refusal_line c.args.refusal) 1) c.finish.new.writer 1 _ (refl, refl)
    c.put_refusal.ensures c.in_ok-status.ensures.finishes c.in_ok-status.ensures.status)
    c.log_refusal.ensures
