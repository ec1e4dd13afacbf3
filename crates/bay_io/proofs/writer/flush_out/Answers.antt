use Rattle.std.proofs.Common.{◌||◌, refl, ap, ◌∙◌}
use Rattle.bay_io.proofs.AskedLemmas.{Asked-one, flush-failed}
use Rattle.bay_io.proofs.writer.flush_out.Goals as goal

pub returns-in-Ok-clause-calls_made : goal.returns-in-Ok-clause-calls_made
returns-in-Ok-clause-calls_made g c =
    Asked-one _ _ _ _ _ (c.flush.ensures.call, refl)
    (c.flush.ensures.failed
    ∙ ap (λ b. c.args.sink.now.has_failed || b) (flush-failed c.flush.result))

pub returns-in-Err-clause-calls_made : goal.returns-in-Err-clause-calls_made
returns-in-Err-clause-calls_made g c =
    Asked-one _ _ _ _ _ (c.flush.ensures.call, refl)
    (c.flush.ensures.failed
    ∙ ap (λ b. c.args.sink.now.has_failed || b) (flush-failed c.flush.result))
