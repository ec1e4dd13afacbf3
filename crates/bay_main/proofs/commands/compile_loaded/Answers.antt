use Rattle.std.proofs.Common.{Ok}
use Rattle.bay_main.proofs.CommandLemmas.{line-fails}
use Rattle.bay_main.proofs.commands.compile_loaded.Goals as goal

pub returns-in_err-write_report : goal.returns-in_err-write_report
returns-in_err-write_report g c =
    line-fails g.F.FileSystem.writes g.W.Sink.contents g.W.Sink.does c.args.out.now
    c.args.loaded.now.image
    c.report.result c.report.ensures c.args.files.now c.args.writer.now
    c.write_report.new.writer c.in_err-write_report.field-0.0 c.in_err-write_report.ensures
    c.from_residual.result c.from_residual.ensures.0

pub returns : goal.returns
returns g c = record {
  report = c.report.result;
  is = c.report.ensures;
  middle = c.write_report.new.writer;
  reported = Ok c.in_ok-write_report.field-0;
  printed = c.in_ok-write_report.ensures;
  continuation = rw (c.image.ensures.value, c.verified.ensures) at c.write_image.ensures;
}
