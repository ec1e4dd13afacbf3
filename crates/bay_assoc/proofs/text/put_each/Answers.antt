use Rattle.bay_assoc.proofs.TextLemmas.{each-next, each-end}
use Rattle.bay_assoc.proofs.text.put_each.Goals as goal

pub loop-context-preserved : goal.loop-context-preserved
loop-context-preserved c =
    each-next c.loop-context.writer _ _ c.args.accepted c.args.contexts.now
    c.loop-context.context-index _ c.loop-context-test.true c.put_result.ensures
    c.loop-context.invariant

pub returns : goal.returns
returns c =
    each-end c.loop-context.writer _ c.args.accepted c.args.contexts.now
    c.loop-context.context-index c.loop-context-test.false c.loop-context.invariant
