use Rattle.std.proofs.Common.{◌-◌, sym, ◌∙◌, arith}
use Rattle.bay_audit_rules.proofs.PieceLemmas.{cut-at}
use Rattle.bay_audit_rules.proofs.pieces.split_piece.Goals.{then-loop-end-test+else-joins, else-loop-end-test}
use Rattle.bay_audit_rules.proofs.pieces.split_piece.Goals as goal

pub returns-clause-cut : goal.returns-clause-cut
returns-clause-cut c =
    let inv = c.loop-end.invariant in
    cut-at c.args.cut c.args.text.now c.loop-end.end (c.loop-end.end - 1) (omega (arith, inv.some))
    inv.within inv.joined
    (elim c.loop-end-test.branch [
      | then-loop-end-test+else-joins w ↦ λ l. sym w.joins.ensures ∙ w.if-joins.false
      | else-loop-end-test w ↦ λ l. absurd (omega (arith, l, w.loop-end-test.false))
    ])
