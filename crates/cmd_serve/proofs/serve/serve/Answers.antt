use Rattle.std.proofs.Common.{Ok, Err, refl, subst}
use Rattle.bay_cli.specs.JobView.{serve_view}
use Rattle.cmd_serve.specs.Serve.{LoadsFiles, form_of}
use Rattle.cmd_serve.proofs.serve.serve.Goals as goal

pub returns-in-Ok-clause-serves : goal.returns-in-Ok-clause-serves
returns-in-Ok-clause-serves g c = record {
  loaded = Ok c.in-Ok.loaded;
  loads = rw (c.form_of-form.ensures.form, c.form_of-form.ensures.name) at c.in-Ok.ensures.ok;
  continuation = c.serve_loaded.ensures.serves;
}

pub returns-in-Err-clause-serves : goal.returns-in-Err-clause-serves
returns-in-Err-clause-serves g c = record {
  loaded = Err c.in-Err.why;
  loads =
      subst (λ name. LoadsFiles g.F.FileSystem.reads g.F.FileSystem.guards c.args.files.now
      (form_of (serve_view c.args.task).program) name (serve_view c.args.task) (Err c.in-Err.why))
      c.form_of-form.ensures.name
      (subst (λ form. LoadsFiles g.F.FileSystem.reads g.F.FileSystem.guards c.args.files.now form
      c.form_of-form.result.1.now (serve_view c.args.task) (Err c.in-Err.why))
      c.form_of-form.ensures.form c.in-Err.ensures.err);
  continuation = (c.report_unserved.ensures, refl);
}
