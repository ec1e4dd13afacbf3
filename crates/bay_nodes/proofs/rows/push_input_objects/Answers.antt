use Rattle.std.proofs.Common.{◌+◌, ◌++◌, drop, map, arith, ap, sym, ◌∙◌}
use Rattle.bay_nodes.specs.declared.subject.Subject.TheVariants.{Input}
use Rattle.bay_nodes.specs.Node.{node_name}
use Rattle.bay_nodes.specs.NodeRows.{line_row, object_rows, row_of_node}
use Rattle.bay_nodes.proofs.NodeLemmas.{object-turn}
use Rattle.bay_nodes.proofs.rows.push_input_objects.Goals as goal

pub loop-i-preserved : goal.loop-i-preserved
loop-i-preserved c =
    λ table shown.
    let object = c.args.object.now in
    let all = c.args.inputs.now in
    let i = c.loop-i.i in
    let name = c.as_str.result in
    let done = c.loop-i.rows.items in
    c.loop-i.invariant table shown
    ∙ object-turn object table all i c.index-inputs-i.result done (omega arith) c.index-inputs-i.is
    ∙ ap (λ rows. rows ++ object_rows object table (i + 1 + 1) (drop (i + 1) all))
    (ap (λ text. done ++ map (row_of_node (node_name object (i + 1))) (table text))
    (sym c.as_str.ensures)
    ∙ ap (λ rs. done ++ map (row_of_node (node_name object (i + 1))) rs) (sym (shown name))
    ∙ ap (λ node. done ++ map (row_of_node node) (map (line_row c.args.nameplate.now (Input name))
    c.args.table.now)) (sym (c.as_str-in-loop-i.ensures ∙ c.in_ok-name.ensures))
    ∙ sym c.in_ok-push_table.ensures)
