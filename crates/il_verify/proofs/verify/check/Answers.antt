use Rattle.std.proofs.Common.{◌∙◌}
use Rattle.il_verify.proofs.MapLemmas.{no-frames}
use Rattle.il_verify.proofs.verify.check.Goals as goal

pub pass-requires-clause-none : goal.pass-requires-clause-none
pass-requires-clause-none c = λ q.
    c.in-Ok-extend_pending.ensures.same q
    ∙ no-frames c.new-pending.result.items q c.new-pending.ensures.items
