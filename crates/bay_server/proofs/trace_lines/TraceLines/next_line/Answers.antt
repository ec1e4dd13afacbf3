use Rattle.std.proofs.Common.{◌∙◌, drop, slice_get, sym, ap, arith}
use Rattle.bay_server.proofs.ServeLemmas.{told-line, told-blank, told-end}
use Rattle.bay_server.proofs.trace_lines.TraceLines.next_line.Goals as goal

pub returns-then-not-is_empty-clause-first : goal.returns-then-not-is_empty-clause-first
returns-then-not-is_empty-clause-first c =
    ap (λ lines. slice_get lines 0)
    (sym (told-line _ _ _ c.loop-self.invariant.left _ _ c.split_line.ensures.cuts
    (sym c.is_empty-in-loop-self.ensures ∙ c.if-not-is_empty.true)))

pub returns-then-not-is_empty-clause-others : goal.returns-then-not-is_empty-clause-others
returns-then-not-is_empty-clause-others c =
    ap (drop 1)
    (sym (told-line _ _ _ c.loop-self.invariant.left _ _ c.split_line.ensures.cuts
    (sym c.is_empty-in-loop-self.ensures ∙ c.if-not-is_empty.true)))

pub loop-self-preserved : goal.loop-self-preserved
loop-self-preserved c = record {
  left = told-blank _ _ _ c.loop-self.invariant.left _ _ c.split_line.ensures.cuts
      (sym c.is_empty-in-loop-self.ensures ∙ c.if-not-is_empty.false);
  bound = omega (arith, c.split_line.ensures.shorter, c.loop-self.invariant.bound);
}

pub returns-clause-first : goal.returns-clause-first
returns-clause-first c =
    ap (λ lines. slice_get lines 0)
    (sym (told-end _ _ _ c.loop-self.invariant.left
    (sym c.is_empty.ensures ∙ c.loop-self-test.false)))

pub returns-clause-others : goal.returns-clause-others
returns-clause-others c =
    let none =
    told-end _ _ _ c.loop-self.invariant.left (sym c.is_empty.ensures ∙ c.loop-self-test.false)
    in
    c.loop-self.invariant.left ∙ (none ∙ ap (drop 1) (sym none))
