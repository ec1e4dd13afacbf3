use Rattle.std.proofs.Common.{◌≡◌, ◌≤◌, ◌+◌, ◌++◌, drop}
use Rattle.bay_nodes.proofs.NodeLemmas.{positions_from}
use Rattle.bay_nodes.proofs.rows.push_positions.Given as goal

abbrev pub invariant-loop-switch : goal.invariant-loop-switch
invariant-loop-switch l =
    (l.number ≤ l.switch-index + 1)
    × (l.fn.rows.items ++ positions_from l.nameplate l.breakers 1 l.switches
    ≡ l.rows.items ++ positions_from l.nameplate l.breakers l.number
    (drop l.switch-index l.switches))
