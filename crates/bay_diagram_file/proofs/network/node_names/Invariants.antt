use Rattle.std.proofs.Common.{◌≡◌, map, take}
use Rattle.bay_diagram_file.specs.declared.row.NodeRow.{NodeRow}
use Rattle.bay_diagram_file.proofs.network.node_names.Given as goal

abbrev pub invariant-loop-row : goal.invariant-loop-row
invariant-loop-row l = l.names.items ≡ map (λ (n : NodeRow). n.name) (take l.row-index l.rows)
