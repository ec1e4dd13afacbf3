use Rattle.std.proofs.Common.{◌≡◌, map, take}
use Rattle.toml.specs.View.{view}
use Rattle.bay_diagram_file.specs.Row.{node_row_of_value}
use Rattle.bay_diagram_file.proofs.node_row.node_rows.Given as goal

abbrev pub invariant-loop-value : goal.invariant-loop-value
invariant-loop-value l =
    l.rows.items ≡ map node_row_of_value (map (λ v. view v) (take l.value-index l.values))
