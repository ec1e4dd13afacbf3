use Rattle.std.proofs.Common.{Ok, Err, inl}
use Rattle.bay_main.proofs.check.check_octets.Goals as goal

pub returns-in-Ok : goal.returns-in-Ok
returns-in-Ok g c = record {
  loaded = Ok c.in-Ok.loaded;
  loads = inl c.in-Ok.ensures.ok;
  reports = (c.report.result, c.report.ensures, c.write_report.ensures);
}

pub returns-in-Err : goal.returns-in-Err
returns-in-Err g c = record {
  loaded = Err c.in-Err.error;
  loads = c.in-Err.ensures.refused;
  reports = c.report_load_refusal.ensures;
}
