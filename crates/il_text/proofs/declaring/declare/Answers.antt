use Rattle.std.proofs.Common.{ap, ◌∙◌}
use Rattle.std.proofs.lemmas.Result.{err_from_is_err_and}
use Rattle.il_text.specs.Declaring.{declared_from}
use Rattle.il_text.proofs.ListingLemmas.{declare-end, declare-no-end, next-symbol}
use Rattle.il_text.proofs.declaring.declare.Goals as goal

pub returns-in_err-after_name-clause-none : goal.returns-in_err-after_name-clause-none
returns-in_err-after_name-clause-none c =
    let p = err_from_is_err_and c.from_residual.result c.from_residual.ensures.1 in
    rw (p.1, p.2)
    (λ m. c.loop-token.invariant
    ∙ ap (declared_from _ _ _ _ _) (next-symbol _ _ _ c.loop-token-test.true)
    ∙ c.in_err-after_name.ensures.none m _)

pub loop-token-preserved : goal.loop-token-preserved
loop-token-preserved c =
    c.loop-token.invariant ∙ ap (declared_from _ _ _ _ _) (next-symbol _ _ _ c.loop-token-test.true)
    ∙ c.in_ok-after_name.ensures.ok _

pub returns-then-after_name-clause-ok : goal.returns-then-after_name-clause-ok
returns-then-after_name-clause-ok c =
    c.loop-token.invariant ∙ rw c.if-after_name.true
    (declare-end _ _ _ _ _ _ c.loop-token-test.false)

pub returns-else-after_name-clause-none : goal.returns-else-after_name-clause-none
returns-else-after_name-clause-none c =
    λ _. c.loop-token.invariant
    ∙ rw c.if-after_name.false (declare-no-end _ _ _ _ _ _ c.loop-token-test.false)
