use Rattle.std.proofs.Common.{◌∙◌, ap, refl}
use Rattle.bay_report.specs.Report.{code_of}
use Rattle.cmd_audit.specs.Auditing.{status_of}
use Rattle.cmd_audit.proofs.LoadedLemmas.{answered-first, answered-second, answered-whole}
use Rattle.cmd_audit.proofs.WrittenLemmas.{when-err}
use Rattle.cmd_audit.proofs.loaded.write_answered.Goals as goal

pub returns-in_err-passed : goal.returns-in_err-passed
returns-in_err-passed g c =
    when-err _ c.from_residual.result c.from_residual.ensures.0
    (answered-first c.args.loaded.now c.args.rules.now c.args.diagram.now c.in_err-passed.ensures)

pub returns-in_err-safe : goal.returns-in_err-safe
returns-in_err-safe g c =
    when-err _ c.from_residual-in_err-safe.result c.from_residual-in_err-safe.ensures.0
    (answered-second c.args.loaded.now c.args.rules.now c.args.diagram.now c.in_ok-passed.passed
    c.in_ok-passed.ensures c.in_err-safe.ensures)

pub returns : goal.returns
returns g c = (
  refl,
  answered-whole c.args.loaded.now c.args.rules.now c.args.diagram.now c.in_ok-passed.passed
      c.in_ok-safe.safe (code_of c.status_of.result) c.in_ok-passed.ensures c.in_ok-safe.ensures
      (c.status_of.ensures ∙ ap status_of c.both.ensures),
)
