use Rattle.std.proofs.Common.{sym}
use Rattle.bay_assoc.specs.Presentation.{are_distinct}
use Rattle.bay_assoc.proofs.ContextLemmas.{distinct-more, distinct-not}
use Rattle.bay_assoc.proofs.presentation.are_distinct.Goals as goal

pub returns-then-has_id : goal.returns-then-has_id
returns-then-has_id c =
    let contexts = c.args.contexts.now in
    sym (distinct-not contexts c.loop-at.at _ c.has_id.result (are_distinct contexts)
    c.loop-at-test.true c.loop-at.invariant c.has_id.ensures c.if-has_id.true)

pub loop-at-preserved : goal.loop-at-preserved
loop-at-preserved c =
    let contexts = c.args.contexts.now in
    distinct-more contexts c.loop-at.at _ c.has_id.result (are_distinct contexts)
    c.loop-at-test.true c.loop-at.invariant c.has_id.ensures c.if-has_id.false
