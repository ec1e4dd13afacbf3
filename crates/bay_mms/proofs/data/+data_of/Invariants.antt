use Rattle.std.proofs.Common.{◌-◌, length}
use Rattle.bay_mms.specs.Views.{data_in}
use Rattle.bay_mms.proofs.NodeLemmas.{left_of}
use Rattle.bay_mms.proofs.DataLemmas.{Found}
use Rattle.bay_mms.proofs.data.+data_of.Given as goal

abbrev pub decreases-data_of : goal.decreases-data_of
decreases-data_of l = length l.tree.now - l.handle

abbrev pub invariant-loop-next : goal.invariant-loop-next
invariant-loop-next l = Found l.tree l.fn.handle (data_in l.parts.items) l.next

abbrev pub decreases-loop-next : goal.decreases-loop-next
decreases-loop-next l = left_of l.tree l.next
