use Rattle.std.proofs.Common.{◌≡◌, ◌+◌, ◌++◌, drop}
use Rattle.bay_nodes.specs.Node.{interlocking_node}
use Rattle.bay_nodes.proofs.NodeLemmas.{numbered_from}
use Rattle.bay_nodes.proofs.rows.push_interlockings.Given as goal

abbrev pub invariant-loop-i : goal.invariant-loop-i
invariant-loop-i l =
    l.fn.rows.items ++ numbered_from (interlocking_node l.nameplate) 1 l.switches
    ≡ l.rows.items ++ numbered_from (interlocking_node l.nameplate) (l.i + 1) (drop l.i l.switches)
