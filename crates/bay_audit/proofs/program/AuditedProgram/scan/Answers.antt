use Rattle.std.proofs.Common.{List, subst}
use Rattle.il_range.specs.Predictions.{PredictsScans}
use Rattle.il_range.specs.declared.range.Range.{Range}
use Rattle.bay_audit.specs.Rules.{BoundProgram, PredictsRanges, program}
use Rattle.bay_audit.proofs.program.AuditedProgram.scan.Goals as goal
use Rattle.bay_audit.proofs.RuleLemmas.{foresees-by}

pub returns-clause-predicts : goal.returns-clause-predicts
returns-clause-predicts c =
    let own = c.self.inside in
    let found = c.in_ok-found.found in
    subst
    (λ (g : BoundProgram). PredictsRanges g c.args.limits.now c.args.given.now found.delays.items
    found.ranges.items) c.self.view_is
    (foresees-by (program own.verified.now own.reads.items own.writes.items) own.memory.items
    c.args.limits.now c.args.given.now found.delays.items found.ranges.items c.self.invariant
    (subst
    (λ (memory : List Range). PredictsScans own.verified.now memory c.args.limits.now
    c.args.given.now
    found.delays.items found.ranges.items) c.as_slice-memory.ensures.value
    c.in_ok-found.ensures.predicts))
