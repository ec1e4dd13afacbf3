use Rattle.std.proofs.Common.{Ok, Err, inr, refl}
use Rattle.bay_files.specs.Files.{FilesData, unread_view}
use Rattle.bay_main.proofs.commands.compile.Goals as goal

pub returns-in-Ok : goal.returns-in-Ok
returns-in-Ok g c =
    let both : FilesData =
    record { bay = c.in-Ok.both.bay.items; program = c.in-Ok.both.program.items } in
    inr (
      c.if-is_same.ensures,
      c.if-is_same-2.ensures,
      (Ok both, c.in-Ok.ensures.ok, c.compile_files.ensures),
    )

pub returns-in-Err : goal.returns-in-Err
returns-in-Err g c =
    inr (
      c.if-is_same.ensures,
      c.if-is_same-2.ensures,
      (
        Err (unread_view c.in-Err.unread),
        c.in-Err.ensures.err,
        (c.report_unread.ensures, refl),
      ),
    )
