use Rattle.std.proofs.Common.{codes, map}
use Rattle.bay_nodes.specs.Node.{rows_of, operate_part, cancel_part}
use Rattle.bay_nodes.specs.NodeRows.{line_row, group_rows}
use Rattle.bay_nodes.proofs.NodeLemmas.{four-groups}
use Rattle.bay_nodes.proofs.rows.push_selection.Goals as goal

pub returns : goal.returns
returns c =
    let n = c.args.nameplate.now in
    let s = c.args.subject in
    let operate = rows_of (codes "$CO$Pos") (operate_part (codes "Oper")) in
    let cancel = rows_of (codes "$CO$Pos") cancel_part in
    rw (
      c.in_ok-push_table-4.ensures,
      c.in_ok-push_table-3.ensures,
      c.in_ok-push_table-2.ensures,
      c.in_ok-push_table.ensures,
    )
    (rw (c.group_table.ensures n s, c.operate_table.ensures n s, c.cancel_table.ensures n s)
    (four-groups c.args.node.now c.args.rows.now.items group_rows
    (map (line_row n s) c.args.select.now) operate cancel))
