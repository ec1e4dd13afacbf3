use Rattle.bay_report.specs.Report.{code_of}
use Rattle.cmd_audit.specs.Refusals.{log_in}
use Rattle.cmd_audit.proofs.DeviceLemmas.{device-cut, device-prints, device-told}
use Rattle.cmd_audit.proofs.audit_files.write_loaded.Goals as goal

pub returns-in_err-status : goal.returns-in_err-status
returns-in_err-status g c =
    let log = log_in c.write_rest-end.result.refused in
    let status = code_of c.write_rest-end.result.status in
    device-cut c.args.loaded.now c.args.texts.now c.report.result c.report.ensures log status
    c.in_err-status.field-0.0 c.from_residual.result c.from_residual.ensures.0
    (device-prints c.args.loaded.now c.args.texts.now c.report.result c.report.ensures log status
    c.finish.result c.finish-2.new.writer _ c.put_report.ensures c.finish.ensures
    c.write_rest-end.ensures c.in_err-status.ensures.finishes c.in_err-status.ensures.status)

pub returns : goal.returns
returns g c =
    let log = log_in c.write_rest-end.result.refused in
    let status = code_of c.write_rest-end.result.status in
    device-told c.args.loaded.now c.args.texts.now c.report.result c.report.ensures log status
    c.in_ok-status.status
    (device-prints c.args.loaded.now c.args.texts.now c.report.result c.report.ensures log status
    c.finish.result c.finish-2.new.writer _ c.put_report.ensures c.finish.ensures
    c.write_rest-end.ensures c.in_ok-status.ensures.finishes c.in_ok-status.ensures.status)
    c.log_refused.ensures
