use Rattle.std.proofs.Common.{◌≡◌, drop}
use Rattle.bay_ber.specs.EncoderBuffers.{buffer_with}
use Rattle.bay_assoc.specs.Texts.{results_text}
use Rattle.bay_assoc.proofs.text.put_each.Given as goal

abbrev pub invariant-loop-context : goal.invariant-loop-context
invariant-loop-context l =
    buffer_with l.writer (results_text l.accepted (drop l.context-index l.contexts))
    ≡ buffer_with l.fn.writer (results_text l.accepted l.contexts)
