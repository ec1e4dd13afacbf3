use Rattle.std.proofs.Common.{◌+◌, ◌++◌, drop, arith, ap, sym, ◌∙◌}
use Rattle.bay_nodes.specs.Node.{control_node}
use Rattle.bay_nodes.proofs.NodeLemmas.{numbered_from, numbered-turn}
use Rattle.bay_nodes.proofs.rows.push_controls.Goals as goal

pub loop-i-preserved : goal.loop-i-preserved
loop-i-preserved c =
    let make = control_node c.args.nameplate.now in
    let all = c.args.switches.now in
    c.loop-i.invariant ∙ numbered-turn make all c.loop-i.i c.index-switches-i.result
    c.loop-i.rows.items (omega arith) c.index-switches-i.is
    ∙ ap (λ rows. rows ++ numbered_from make (c.loop-i.i + 1 + 1) (drop (c.loop-i.i + 1) all))
    (sym c.in_ok-push_control.ensures)
