use Rattle.std.proofs.Common.{◌-◌, [], ◌∷◌, length}
use Rattle.bay_ber.specs.EncoderBuffers.{buffer_with}
use Rattle.bay_mms.proofs.NodeLemmas.{Written, nodes_types_text, left_of}
use Rattle.bay_mms.proofs.value.+write_type.Given as goal

abbrev pub decreases-write_type : goal.decreases-write_type
decreases-write_type l = length l.tree.now - l.handle

abbrev pub invariant-loop-next : goal.invariant-loop-next
invariant-loop-next l =
    Written l.tree l.fn.handle nodes_types_text 0xA1 (buffer_with l.fn.writer (0xA2 ∷ 0 ∷ []))
    l.writer
    l.next

abbrev pub decreases-loop-next : goal.decreases-loop-next
decreases-loop-next l = left_of l.tree l.next
