use Rattle.std.proofs.Common.{inl, inr, option_map, refl}
use Rattle.std.proofs.lemmas.Result.{err_from_is_err_and}
use Rattle.bay_device.specs.Load.{device_of}
use Rattle.bay_files.specs.Files.{FilesData}
use Rattle.cmd_serve.proofs.FileLemmas.{named-short, text-runs}
use Rattle.cmd_serve.proofs.serve.read_and_load.Goals as goal
use Rattle.cmd_serve.proofs.BeginLemmas.{begun-of}
use Rattle.cmd_serve.proofs.TextLemmas.{loaded-named}

pub returns-in_err-trace-clause-err : goal.returns-in_err-trace-clause-err
returns-in_err-trace-clause-err g c =
    let p = err_from_is_err_and c.from_residual-in_err-trace.result
    c.from_residual-in_err-trace.ensures.1 in
    let both : FilesData =
    record { bay = c.in_ok-both.both.bay.items; program = c.in_ok-both.both.program.items } in
    rw (p.1, p.2) (inr (both, c.in_ok-both.ensures.ok, inl c.in_err-trace.ensures.err))

pub returns-in_err-rules-clause-err : goal.returns-in_err-rules-clause-err
returns-in_err-rules-clause-err g c =
    let p = err_from_is_err_and c.from_residual-in_err-rules.result
    c.from_residual-in_err-rules.ensures.1 in
    let both : FilesData =
    record { bay = c.in_ok-both.both.bay.items; program = c.in_ok-both.both.program.items } in
    rw (p.1, p.2) (inr (
      both,
      c.in_ok-both.ensures.ok,
      inr (
        c.in_ok-trace.trace.items,
        c.in_ok-trace.ensures.ok,
        (
          option_map (λ k. k.items) c.in_ok-key.key,
          c.in_ok-key.ensures.ok,
          inl c.in_err-rules.ensures.err,
        ),
      ),
    ))

pub returns-in_err-diagram-clause-err : goal.returns-in_err-diagram-clause-err
returns-in_err-diagram-clause-err g c =
    let p = err_from_is_err_and c.from_residual-in_err-diagram.result
    c.from_residual-in_err-diagram.ensures.1 in
    let both : FilesData =
    record { bay = c.in_ok-both.both.bay.items; program = c.in_ok-both.both.program.items } in
    rw (p.1, p.2) (inr (
      both,
      c.in_ok-both.ensures.ok,
      inr (
        c.in_ok-trace.trace.items,
        c.in_ok-trace.ensures.ok,
        (
          option_map (λ k. k.items) c.in_ok-key.key,
          c.in_ok-key.ensures.ok,
          inr (c.in_ok-rules.rules, c.in_ok-rules.ensures.ok, c.in_err-diagram.ensures.err),
        ),
      ),
    ))

pub returns-in_err-load-clause-err : goal.returns-in_err-load-clause-err
returns-in_err-load-clause-err g c =
    let p = err_from_is_err_and c.from_residual-in_err-load.result
    c.from_residual-in_err-load.ensures.1 in
    let both : FilesData =
    record { bay = c.in_ok-both.both.bay.items; program = c.in_ok-both.both.program.items } in
    let refused = rw (c.as_slice.ensures.value, c.as_slice-2.ensures.value) at
    c.in_err-load.ensures.refused in
    rw (p.1, p.2) (
      both,
      c.in_ok-both.ensures.ok,
      (
        c.in_ok-trace.trace.items,
        c.in_ok-trace.ensures.ok,
        (
          option_map (λ k. k.items) c.in_ok-key.key,
          c.in_ok-key.ensures.ok,
          (
            c.in_ok-rules.rules,
            c.in_ok-rules.ensures.ok,
            (c.in_ok-diagram.diagram, c.in_ok-diagram.ensures.ok, refused),
          ),
        ),
      ),
    )

pub returns-in_err-key-clause-err : goal.returns-in_err-key-clause-err
returns-in_err-key-clause-err g c =
    let p = err_from_is_err_and c.from_residual-in_err-key.result
    c.from_residual-in_err-key.ensures.1 in
    let both : FilesData =
    record { bay = c.in_ok-both.both.bay.items; program = c.in_ok-both.both.program.items } in
    rw (p.1, p.2) (
      both,
      c.in_ok-both.ensures.ok,
      (c.in_ok-trace.trace.items, c.in_ok-trace.ensures.ok, c.in_err-key.ensures.err),
    )

pub returns-clause-ok : goal.returns-clause-ok
returns-clause-ok g c =
    let both : FilesData =
    record { bay = c.in_ok-both.both.bay.items; program = c.in_ok-both.both.program.items } in
    let loads = rw (c.as_slice.ensures.value, c.as_slice-2.ensures.value) at
    c.in_ok-load.ensures.ok in (
      c.in_ok-both.ensures.ok,
      c.in_ok-trace.ensures.ok,
      c.in_ok-key.ensures.ok,
      c.in_ok-rules.ensures.ok,
      c.in_ok-diagram.ensures.ok,
      refl,
      loads,
      text-runs c.args.form both (device_of c.in_ok-load.load)
          (c.in_ok-load.load, loads, refl),
    )

pub returns-clause-begun : goal.returns-clause-begun
returns-clause-begun g c =
    begun-of _ _ _ (device_of c.in_ok-load.load) _ (c.in_ok-load.load, c.in_ok-load.ensures.ok, refl)

pub returns-clause-named : goal.returns-clause-named
returns-clause-named g c = loaded-named _ _ _ _ c.in_ok-load.ensures.ok

pub returns-clause-short : goal.returns-clause-short
returns-clause-short g c =
    named-short g.F.FileSystem.guards _ _ (option_map (λ k. k.items) c.in_ok-key.key)
    c.in_ok-key.ensures.ok
