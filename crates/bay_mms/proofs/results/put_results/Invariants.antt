use Rattle.std.proofs.Common.{◌≡◌, ◌∷◌, take}
use Rattle.std.specs.List.{flat_map}
use Rattle.bay_ber.specs.EncoderBuffers.{buffer_with}
use Rattle.bay_mms.specs.Responses.{result_text}
use Rattle.bay_mms.proofs.results.put_results.Given as goal

abbrev pub invariant-loop-outcome : goal.invariant-loop-outcome
invariant-loop-outcome l =
    l.writer ≡ buffer_with l.fn.writer
    (0xA5 ∷ 0 ∷ flat_map result_text (take l.outcome-index l.results))
