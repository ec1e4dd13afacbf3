use Rattle.std.proofs.Common.{Ok, Err, refl, subst, ap, ◌∙◌}
use Rattle.bay_cli.specs.JobView.{serve_view}
use Rattle.cmd_serve.specs.Serve.{BindsPorts, settings_of, state_of}
use Rattle.cmd_serve.proofs.serve.serve_ports.Goals as goal

pub returns-in-Ok-clause-serves : goal.returns-in-Ok-clause-serves
returns-in-Ok-clause-serves g c = record {
  bound = Ok c.in-Ok.bound;
  host = c.bind_ports.new.host;
  binds =
      subst (λ settings. BindsPorts g.H.Host.does (serve_view c.args.task) settings
      (state_of c.args.loaded) c.args.host.now c.bind_ports.new.host (Ok c.in-Ok.bound))
      (c.make_settings-settings.ensures
      ∙ ap (settings_of (serve_view c.args.task).options.limit_ms) c.key_octets.ensures)
      c.in-Ok.ensures.binds;
  continuation = rw c.as_slice.ensures.value at c.serve_bound.ensures;
}

pub returns-clause-serves : goal.returns-clause-serves
returns-clause-serves g c = record {
  bound = Err c.in-Err.why;
  host = c.bind_ports.new.host;
  binds =
      subst (λ settings. BindsPorts g.H.Host.does (serve_view c.args.task) settings
      (state_of c.args.loaded) c.args.host.now c.bind_ports.new.host (Err c.in-Err.why))
      (c.make_settings-settings.ensures
      ∙ ap (settings_of (serve_view c.args.task).options.limit_ms) c.key_octets.ensures)
      c.in-Err.ensures.binds;
  continuation = (c.report_unserved.ensures, refl);
}
