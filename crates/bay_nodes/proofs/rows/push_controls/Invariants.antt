use Rattle.std.proofs.Common.{◌≡◌, ◌+◌, ◌++◌, drop}
use Rattle.bay_nodes.specs.Node.{control_node}
use Rattle.bay_nodes.proofs.NodeLemmas.{numbered_from}
use Rattle.bay_nodes.proofs.rows.push_controls.Given as goal

abbrev pub invariant-loop-i : goal.invariant-loop-i
invariant-loop-i l =
    l.fn.rows.items ++ numbered_from (control_node l.nameplate) 1 l.switches
    ≡ l.rows.items ++ numbered_from (control_node l.nameplate) (l.i + 1) (drop l.i l.switches)
