use Rattle.std.proofs.Common.{codes}
use Rattle.bay_nodes.specs.Node.{rows_of, operate_part}
use Rattle.bay_nodes.specs.NodeRows.{group_rows}
use Rattle.bay_nodes.proofs.NodeLemmas.{two-groups}
use Rattle.bay_nodes.proofs.rows.push_commands.Goals as goal

pub returns-in_ok-push_table-in-Direct-2 : goal.returns-in_ok-push_table-in-Direct-2
returns-in_ok-push_table-in-Direct-2 c =
    let n = c.args.nameplate.now in
    let s = c.args.subject in
    rw (
      c.in-Direct.is,
      c.in_ok-push_table-in-Direct-2.ensures,
      c.in_ok-push_table-in-Direct.ensures,
    )
    (rw (c.group_table-group.ensures n s, c.operate_table-operate.ensures n s)
    (two-groups c.args.node.now c.args.rows.now.items group_rows
    (rows_of (codes "$CO$Pos") (operate_part (codes "Oper")))))

pub returns-in-Sbo : goal.returns-in-Sbo
returns-in-Sbo c =
    rw c.in-Sbo.is (rw (c.select_table.ensures c.args.nameplate.now c.args.subject) at
    c.push_selection.ensures)

pub returns-in-SboEnhanced : goal.returns-in-SboEnhanced
returns-in-SboEnhanced c =
    rw c.in-SboEnhanced.is
    (rw (c.select_with_value_table.ensures c.args.nameplate.now c.args.subject) at
    c.push_selection-in-SboEnhanced.ensures)
