use Rattle.std.proofs.Common.{◌≡◌, ◌++◌, drop}
use Rattle.bay_diagram_file.specs.Parts.{nodes_from}
use Rattle.bay_diagram_file.proofs.network.nodes_of.Given as goal

abbrev pub invariant-loop-index : goal.invariant-loop-index
invariant-loop-index l =
    nodes_from l.inputs 0 l.rows
    ≡ l.nodes.items ++ nodes_from l.inputs l.index (drop l.index l.rows)
