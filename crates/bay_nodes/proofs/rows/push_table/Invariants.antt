use Rattle.std.proofs.Common.{◌≡◌, ◌++◌, drop}
use Rattle.bay_nodes.specs.NodeRows.{table_rows}
use Rattle.bay_nodes.proofs.rows.push_table.Given as goal

abbrev pub invariant-loop-path : goal.invariant-loop-path
invariant-loop-path l =
    l.fn.rows.items ++ table_rows l.nameplate l.subject l.node l.table
    ≡ l.rows.items ++ table_rows l.nameplate l.subject l.node (drop l.path-index l.table)
