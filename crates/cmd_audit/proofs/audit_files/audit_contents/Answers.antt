use Rattle.std.proofs.Common.{inl, inr}
use Rattle.bay_report.proofs.ReportLemmas.{PrintsLogs-weaker}
use Rattle.cmd_audit.specs.Auditing.{AuditReport, octets_of}
use Rattle.cmd_audit.proofs.audit_files.audit_contents.Goals as goal

pub returns-in-Ok : goal.returns-in-Ok
returns-in-Ok g c =
    let loads = rw (c.as_slice-bay.ensures.value, c.as_slice-program.ensures.value) at
    c.in-Ok.ensures.ok in
    PrintsLogs-weaker (AuditReport c.args.form (octets_of c.args.contents.now))
    c.write_loaded.result
    (λ log text status told. inl (record {
      loaded = c.in-Ok.loaded;
      loads = loads;
      reports = told;
    })) c.write_loaded.ensures

pub returns-in-Err : goal.returns-in-Err
returns-in-Err g c =
    let refused = rw (c.as_slice-bay.ensures.value, c.as_slice-program.ensures.value) at
    c.in-Err.ensures.refused in
    PrintsLogs-weaker (AuditReport c.args.form (octets_of c.args.contents.now))
    c.report_load_refusal.result
    (λ log text status told. inr (record {
      error = c.in-Err.error;
      refused = refused;
      reports = told;
    })) c.report_load_refusal.ensures
