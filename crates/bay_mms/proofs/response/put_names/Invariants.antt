use Rattle.std.proofs.Common.{◌≡◌, drop}
use Rattle.bay_ber.specs.EncoderBuffers.{buffer_with}
use Rattle.bay_mms.specs.Responses.{names_text}
use Rattle.bay_mms.proofs.response.put_names.Given as goal

abbrev pub invariant-loop-name : goal.invariant-loop-name
invariant-loop-name l =
    buffer_with l.writer (names_text (drop l.name-index l.names))
    ≡ buffer_with l.fn.writer (names_text l.names)
