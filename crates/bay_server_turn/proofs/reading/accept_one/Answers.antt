use Rattle.std.proofs.Common.{sym, ◌∙◌}
use Rattle.bay_server_turn.proofs.PartLemmas.{accepts-some, accepts-none, accepts-failed}
use Rattle.bay_server_turn.proofs.reading.accept_one.Goals as goal

pub returns-in-Ok-Some-clause-opens : goal.returns-in-Ok-Some-clause-opens
returns-in-Ok-Some-clause-opens g c =
    let free = sym c.lowest_free_association.ensures.lowest ∙ c.in-Some.is in
    accepts-some _ _ _ _ _ _ _ _ _ _ free
    (rw c.in-Ok-Some.field-0-is at c.in-Ok-Some.ensures.call) c.step_without_replies.ensures.after
    c.close_overflowed.ensures.makes c.close_overflowed.ensures.after

pub returns-in-Ok-None-clause-opens : goal.returns-in-Ok-None-clause-opens
returns-in-Ok-None-clause-opens g c =
    let free = sym c.lowest_free_association.ensures.lowest ∙ c.in-Some.is in
    accepts-none _ _ _ _ _ _ free (rw c.in-Ok-None.field-0-is at c.in-Ok-None.ensures.call)

pub returns-in-Err-clause-opens : goal.returns-in-Err-clause-opens
returns-in-Err-clause-opens g c =
    let free = sym c.lowest_free_association.ensures.lowest ∙ c.in-Some.is in
    accepts-failed _ _ _ _ _ _ free c.in-Err.ensures.call
