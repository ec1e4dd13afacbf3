use Rattle.std.proofs.Common.{◌≡◌, ◌++◌, drop}
use Rattle.bay_diagram_file.specs.Parts.{branches_from}
use Rattle.bay_diagram_file.proofs.network.branches_of.Given as goal

abbrev pub invariant-loop-index : goal.invariant-loop-index
invariant-loop-index l =
    branches_from l.bay l.nodes 0 l.rows
    ≡ l.branches.items ++ branches_from l.bay l.nodes l.index (drop l.index l.rows)
