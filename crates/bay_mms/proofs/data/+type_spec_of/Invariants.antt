use Rattle.std.proofs.Common.{◌-◌, length}
use Rattle.bay_mms.specs.Views.{components_in}
use Rattle.bay_mms.proofs.NodeLemmas.{left_of}
use Rattle.bay_mms.proofs.DataLemmas.{FoundTypes}
use Rattle.bay_mms.proofs.data.+type_spec_of.Given as goal

abbrev pub decreases-type_spec_of : goal.decreases-type_spec_of
decreases-type_spec_of l = length l.tree.now - l.handle

abbrev pub invariant-loop-next : goal.invariant-loop-next
invariant-loop-next l = FoundTypes l.tree l.fn.handle (components_in l.parts.items) l.next

abbrev pub decreases-loop-next : goal.decreases-loop-next
decreases-loop-next l = left_of l.tree l.next
