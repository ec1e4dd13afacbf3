use Rattle.std.proofs.Common.{◌-◌, length}
use Rattle.bay_mms.proofs.NodeLemmas.{Written, nodes_text, left_of}
use Rattle.bay_mms.proofs.value.+write_value.Given as goal

abbrev pub decreases-write_value : goal.decreases-write_value
decreases-write_value l = length l.seen.now - l.handle

abbrev pub invariant-loop-next : goal.invariant-loop-next
invariant-loop-next l = Written l.seen l.fn.handle nodes_text 0xA2 l.fn.writer l.writer l.next

abbrev pub decreases-loop-next : goal.decreases-loop-next
decreases-loop-next l = left_of l.seen l.next
