use Rattle.std.proofs.Common.{◌∙◌}
use Rattle.std.proofs.lemmas.Result.{err_from_is_err_and}
use Rattle.il_text.proofs.ListingLemmas.{steps-one, steps-more}
use Rattle.il_text.proofs.listing.Draft.take_parenthesis_load.Goals as goal

pub returns-in_err-take_instruction-clause-none : goal.returns-in_err-take_instruction-clause-none
returns-in_err-take_instruction-clause-none c =
    let p = err_from_is_err_and c.from_residual-in_err-take_instruction.result
    c.from_residual-in_err-take_instruction.ensures.1 in
    rw (p.1, p.2) (λ m. steps-more _ _ _ _ _ c.in_ok-take_parenthesis_start.ensures.ok
    ∙ steps-one _ _ _
    ∙ c.in_err-take_instruction.ensures.none m)

pub returns-clause-ok : goal.returns-clause-ok
returns-clause-ok c =
    steps-more _ _ _ _ _ c.in_ok-take_parenthesis_start.ensures.ok ∙ steps-one _ _ _
    ∙ c.in_ok-take_instruction.ensures.ok
