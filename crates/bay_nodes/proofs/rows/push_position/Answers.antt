use Rattle.std.proofs.Common.{◌++◌, ◌∙◌, [], ap}
use Rattle.bay_nodes.specs.declared.subject.Subject.TheVariants as subject
use Rattle.bay_nodes.specs.Node.{class_of, is_breaker, node_name, position_parts, rows_of_parts}
use Rattle.bay_nodes.proofs.NodeLemmas.{node-appended}
use Rattle.bay_nodes.proofs.rows.push_position.Goals as goal

pub returns : goal.returns
returns c =
    let n = c.args.nameplate.now in
    let s = c.args.switch in
    c.in_ok-push_node.ensures
    ∙ ap (λ rows. c.args.rows.now.items ++ rows)
    (node-appended n (subject.Switch s) c.as_str.result.now
    (node_name (class_of s.now.kind) c.args.number) c.position_table-table.result.now
    (position_parts n.profile (is_breaker s.now.kind) n s.now)
    (c.as_str.ensures ∙ c.in_ok-node.ensures
    ∙ ap (λ class. node_name class c.args.number) c.class_of.ensures)
    (c.position_table-table.ensures n s
    ∙ ap (λ breaker. rows_of_parts [] (position_parts n.profile breaker n s.now))
    c.is_breaker.ensures))
