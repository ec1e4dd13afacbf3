use Rattle.std.proofs.Common.{Ok, Err, inl, inr, refl, subst}
use Rattle.std.proofs.lemmas.Result.{err_from_is_err_and}
use Rattle.bay_cli.specs.JobView.{serve_view}
use Rattle.cmd_serve.specs.Serve.{BindsProcess}
use Rattle.cmd_serve.proofs.serve.bind_ports.Goals as goal

pub returns-in_err-device-clause-binds : goal.returns-in_err-device-clause-binds
returns-in_err-device-clause-binds g c =
    let p = err_from_is_err_and c.from_residual.result c.from_residual.ensures.1 in
    rw (p.1, p.2) (inr (refl, refl))

pub returns-in-Ok-clause-binds : goal.returns-in-Ok-clause-binds
returns-in-Ok-clause-binds g c =
    inl (
      Ok c.in-Ok.link,
      c.bind.new.self,
      c.in-Ok.ensures,
      subst (λ device. BindsProcess g.H.Host.does (serve_view c.args.task) c.args.settings device
          c.in-Ok.link (serve_view c.args.task).options.process c.bind.new.self
          c.bind_process.new.host c.bind_process.result) c.in_ok-device.ensures.device
          c.bind_process.ensures.binds,
    )

pub returns-in-Err-clause-binds : goal.returns-in-Err-clause-binds
returns-in-Err-clause-binds g c =
    inl (Err c.in-Err.fault, c.bind.new.self, c.in-Err.ensures, (refl, refl))
