use Rattle.std.proofs.Common.{◌++◌, ◌∙◌, [], codes, map, is_some, ap}
use Rattle.bay_nodes.specs.declared.subject.Subject.TheVariants as subject
use Rattle.bay_nodes.specs.Node.{meter_settings, meter_values, node_name, parts_of, rows_of_parts}
use Rattle.bay_nodes.specs.NodeRows.{line_row, table_rows}
use Rattle.bay_nodes.proofs.NodeLemmas.{two-appended}
use Rattle.bay_nodes.proofs.rows.push_meter.Goals as goal

pub returns : goal.returns
returns c =
    let n = c.args.nameplate.now in
    let m = c.args.meter in
    let node = c.as_str-node.result.now in
    let line = line_row n (subject.Meter m) in
    let last = c.meter_settings_table-last.result.now in
    c.in_ok-push_table.ensures
    ∙ ap (λ rows. rows ++ table_rows n (subject.Meter m) node last) c.in_ok-push_node.ensures
    ∙ two-appended c.args.rows.now.items node (node_name (codes "MMXU") c.args.number)
    (map line c.meter_table-first.result.now) (map line last)
    (meter_values n.profile (is_some m.now.scale))
    (meter_settings n.profile (is_some m.now.scale) n m.now)
    (c.as_str-node.ensures ∙ c.in_ok-name.ensures)
    (c.meter_table-first.ensures n (subject.Meter m)
    ∙ ap (λ scaled. rows_of_parts [] (parts_of (meter_values n.profile scaled)))
    c.is_some-scaled.ensures)
    (c.meter_settings_table-last.ensures n m
    ∙ ap (λ scaled. rows_of_parts [] (parts_of (meter_settings n.profile scaled n m.now)))
    c.is_some-scaled.ensures)
