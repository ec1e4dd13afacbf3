use Rattle.std.proofs.Common.{Ok, Err}
use Rattle.bay_files.specs.Files.{unread_view}
use Rattle.cmd_audit.specs.Auditing.{octets_of}
use Rattle.cmd_audit.proofs.audit_files.audit_files.Goals as goal

pub returns-in-Err : goal.returns-in-Err
returns-in-Err g c = record {
  read = Err (unread_view c.in-Err.unread);
  is_read = c.in-Err.ensures.err;
  does = c.report_unread.ensures;
}

pub returns : goal.returns
returns g c = record {
  read = Ok (octets_of c.in-Ok.contents);
  is_read = c.in-Ok.ensures.ok;
  does = c.audit_contents.ensures;
}
