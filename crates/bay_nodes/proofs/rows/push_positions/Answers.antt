use Rattle.std.proofs.Common.{arith, sym, ◌∙◌}
use Rattle.bay_nodes.proofs.NodeLemmas.{position-turn, position-passed}
use Rattle.bay_nodes.proofs.rows.push_positions.Goals.{then-is_in_group+in_ok-push_position, else-is_in_group}
use Rattle.bay_nodes.proofs.rows.push_positions.Goals as goal

pub loop-switch-preserved : goal.loop-switch-preserved
loop-switch-preserved c =
    let ss = c.args.switches.now in
    let i = c.loop-switch.switch-index in
    let n = c.loop-switch.number in
    let s = c.switch-item.result in
    let done = c.loop-switch.rows.items in
    elim c.if-is_in_group.branch [
      | then-is_in_group+in_ok-push_position w ↦ (
        omega arith,
        rw (w.rows-is, w.number-is, w.in_ok-push_position.ensures)
            (c.loop-switch.invariant.1
            ∙ position-turn c.args.nameplate.now c.args.breakers ss i n s done (omega arith)
            c.switch-item.is
            (sym c.is_in_group.ensures ∙ w.if-is_in_group.true)),
      )
      | else-is_in_group w ↦ (
        omega arith,
        rw (w.rows-is, w.number-is)
            (c.loop-switch.invariant.1
            ∙ position-passed c.args.nameplate.now c.args.breakers ss i n s done (omega arith)
            c.switch-item.is
            (sym c.is_in_group.ensures ∙ w.if-is_in_group.false)),
      )
    ]
