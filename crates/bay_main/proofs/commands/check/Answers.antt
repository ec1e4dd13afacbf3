use Rattle.std.proofs.Common.{Ok, Err}
use Rattle.bay_files.specs.Files.{FilesData, unread_view}
use Rattle.bay_main.proofs.commands.check.Goals as goal

pub returns-in-Ok : goal.returns-in-Ok
returns-in-Ok g c =
    let both : FilesData =
    record { bay = c.as_slice.result.now; program = c.as_slice-in-Ok.result.now } in
    record {
      read = Ok both;
      is_read = rw (c.as_slice.ensures.value, c.as_slice-in-Ok.ensures.value) c.in-Ok.ensures.ok;
      checks = c.check_octets.ensures;
    }

pub returns-in-Err : goal.returns-in-Err
returns-in-Err g c = record {
  read = Err (unread_view c.in-Err.unread);
  is_read = c.in-Err.ensures.err;
  checks = c.report_unread.ensures;
}
