use Rattle.std.proofs.Common.{inl, inr}
use Rattle.std.proofs.lemmas.Result.{err_from_is_err_and}
use Rattle.bay_files.specs.Files.{FilesData}
use Rattle.cmd_audit.proofs.audit_files.read_all.Goals as goal

pub returns-in_err-both-clause-err : goal.returns-in_err-both-clause-err
returns-in_err-both-clause-err g c =
    let p = err_from_is_err_and c.from_residual.result c.from_residual.ensures.1 in
    rw (p.1, p.2) (inl c.in_err-both.ensures.err)

pub returns-in_err-rules-clause-err : goal.returns-in_err-rules-clause-err
returns-in_err-rules-clause-err g c =
    let p = err_from_is_err_and c.from_residual-in_err-rules.result
    c.from_residual-in_err-rules.ensures.1 in
    let both : FilesData =
    record { bay = c.in_ok-both.both.bay.items; program = c.in_ok-both.both.program.items } in
    rw (p.1, p.2) (inr (both, c.in_ok-both.ensures.ok, inl c.in_err-rules.ensures.err))

pub returns-in_err-diagram-clause-err : goal.returns-in_err-diagram-clause-err
returns-in_err-diagram-clause-err g c =
    let p = err_from_is_err_and c.from_residual-in_err-diagram.result
    c.from_residual-in_err-diagram.ensures.1 in
    let both : FilesData =
    record { bay = c.in_ok-both.both.bay.items; program = c.in_ok-both.both.program.items } in
    rw (p.1, p.2) (inr (
      both,
      c.in_ok-both.ensures.ok,
      inr (c.in_ok-rules.rules, c.in_ok-rules.ensures.ok, c.in_err-diagram.ensures.err),
    ))
