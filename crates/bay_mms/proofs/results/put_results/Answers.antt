use Rattle.std.proofs.Common.{◌∙◌, None, get_or, ap}
use Rattle.bay_ber.specs.EncoderBuffers.{EncoderBuffer, buffer_with}
use Rattle.bay_ber.proofs.SheetLemmas.{put-item}
use Rattle.bay_mms.specs.Responses.{result_text}
use Rattle.bay_mms.proofs.results.put_results.Goals as goal

pub loop-outcome-preserved : goal.loop-outcome-preserved
loop-outcome-preserved c =
    let i = c.loop-outcome.outcome-index in
    c.put_result.ensures
    ∙ ap (λ (s : EncoderBuffer). buffer_with s (result_text (get_or c.args.results.now i None)))
    c.loop-outcome.invariant
    ∙ put-item c.args.writer.now 0xA5 result_text c.args.results.now i None
    c.loop-outcome-test.true
