use Rattle.std.proofs.Common.{◌++◌, ◌∙◌, codes, map, refl, ap}
use Rattle.bay_nodes.specs.declared.subject.Subject.TheVariants as subject
use Rattle.bay_nodes.specs.Node.{command_parts, control_settings, control_status, node_name}
use Rattle.bay_nodes.specs.NodeRows.{command_rows, line_row, row_of_node, table_rows}
use Rattle.bay_nodes.proofs.NodeLemmas.{three-appended}
use Rattle.bay_nodes.proofs.rows.push_control.Goals as goal

pub returns : goal.returns
returns c =
    let n = c.args.nameplate.now in
    let s = c.args.switch in
    let control = s.now.control in
    let node = c.as_str-node.result.now in
    let line = line_row n (subject.Switch s) in
    let last = c.control_settings_table-last.result.now in
    c.in_ok-push_table.ensures
    ∙ ap (λ rows. rows ++ table_rows n (subject.Switch s) node last)
    (c.in_ok-push_commands.ensures
    ∙ ap (λ rows. rows ++ map (row_of_node node) (command_rows control)) c.in_ok-push_node.ensures)
    ∙ three-appended c.args.rows.now.items node (node_name (codes "CSWI") c.args.number)
    (map line c.control_table-first.result.now) (command_rows control) (map line last)
    (control_status n.profile) (command_parts control) (control_settings n.profile n s.now)
    (c.as_str-node.ensures ∙ c.in_ok-name.ensures)
    (c.control_table-first.ensures n (subject.Switch s)) refl
    (c.control_settings_table-last.ensures n s)
