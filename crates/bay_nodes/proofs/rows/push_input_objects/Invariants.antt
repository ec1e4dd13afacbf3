use Rattle.std.proofs.Common.{◌≡◌, ℕ, ◌+◌, List, ◌++◌, drop, map}
use Rattle.std.specs.Borrow.{Bor}
use Rattle.bay_tree.specs.declared.row.Row.{Row}
use Rattle.bay_nodes.specs.declared.subject.Subject.TheVariants.{Input}
use Rattle.bay_nodes.specs.NodeRows.{line_row, object_rows}
use Rattle.bay_nodes.proofs.rows.push_input_objects.Given as goal

abbrev pub invariant-loop-i : goal.invariant-loop-i
invariant-loop-i l =
    (table : List ℕ → List Row)
    → ((name : Bor (List ℕ)) → map (line_row l.nameplate (Input name)) l.table ≡ table name.now)
    → l.fn.rows.items ++ object_rows l.object table 1 l.inputs
    ≡ l.rows.items ++ object_rows l.object table (l.i + 1) (drop l.i l.inputs)
