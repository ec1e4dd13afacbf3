use Rattle.std.proofs.Common.{◌++◌, ◌∙◌, codes, ap}
use Rattle.bay_nodes.specs.declared.subject.Subject.TheVariants as subject
use Rattle.bay_nodes.specs.Node.{interlocking_parts, node_name}
use Rattle.bay_nodes.proofs.NodeLemmas.{node-appended}
use Rattle.bay_nodes.proofs.rows.push_interlocking.Goals as goal

pub returns : goal.returns
returns c =
    let n = c.args.nameplate.now in
    let s = c.args.switch in
    c.in_ok-push_node.ensures
    ∙ ap (λ rows. c.args.rows.now.items ++ rows)
    (node-appended n (subject.Switch s) c.as_str.result.now
    (node_name (codes "CILO") c.args.number) c.interlocking_table-table.result.now
    (interlocking_parts n.profile n s.now) (c.as_str.ensures ∙ c.in_ok-node.ensures)
    (c.interlocking_table-table.ensures n s))
