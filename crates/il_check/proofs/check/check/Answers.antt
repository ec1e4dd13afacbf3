use Rattle.std.proofs.lemmas.Result.{err_from_is_err_and}
use Rattle.il_text.specs.Views.{plain_program}
use Rattle.il_check.specs.ProgramViews.{checked_view}
use Rattle.il_check.proofs.RightLemmas.{least-answer, passes, wrong-answer}
use Rattle.il_check.proofs.check.check.Goals as goal

pub returns-in_err-typed-clause-wrong : goal.returns-in_err-typed-clause-wrong
returns-in_err-typed-clause-wrong c =
    let p = err_from_is_err_and c.from_residual.result c.from_residual.ensures.1 in
    rw (p.1, p.2) (wrong-answer c.args.points.now (plain_program c.args.program.now) _
    c.in_err-typed.ensures.checked)

pub returns-in_err-typed-clause-first : goal.returns-in_err-typed-clause-first
returns-in_err-typed-clause-first c =
    let p = err_from_is_err_and c.from_residual.result c.from_residual.ensures.1 in
    rw (p.1, p.2) (least-answer c.args.points.now (plain_program c.args.program.now) _
    c.in_err-typed.ensures.checked)

pub returns-clause-right : goal.returns-clause-right
returns-clause-right c =
    passes c.args.points.now (plain_program c.args.program.now) (checked_view c.in_ok-typed.typed)
    c.in_ok-typed.ensures.checked
