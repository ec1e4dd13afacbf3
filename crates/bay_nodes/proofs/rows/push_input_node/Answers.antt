use Rattle.std.proofs.Common.{arith}
use Rattle.bay_nodes.proofs.NodeLemmas.{inputs-have-node}
use Rattle.bay_nodes.proofs.rows.push_input_node.Goals as goal

pub returns-in_default : goal.returns-in_default
returns-in_default c =
    let n = c.args.nameplate.now in
    rw (inputs-have-node n.profile n c.args.inputs.now c.in-Two.is
    (omega (arith, c.in_default.len_at_least))) c.push_inputs.ensures
