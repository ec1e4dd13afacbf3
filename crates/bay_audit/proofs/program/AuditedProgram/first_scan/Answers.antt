use Rattle.std.proofs.Common.{◌∙◌, ◌++◌, List, ap, length, map, subst, sym}
use Rattle.il_image.specs.Images.{Image}
use Rattle.il_range.specs.Effects.{value_range}
use Rattle.il_range.specs.Predictions.{PredictsScans}
use Rattle.il_range.specs.Starts.{range_of_point}
use Rattle.il_range.specs.declared.delay.KnownDelay.{KnownDelay}
use Rattle.il_range.specs.declared.range.Range.{Range}
use Rattle.bay_audit.specs.Rules.{BoundProgram, PredictsFirst, program}
use Rattle.bay_audit.proofs.program.AuditedProgram.first_scan.Goals as goal
use Rattle.bay_audit.proofs.RuleLemmas.{foresees-first}

pub returns-clause-predicts : goal.returns-clause-predicts
returns-clause-predicts c =
    let own = c.self.inside in
    let found = c.in_ok-found.found in
    let memory = c.in_ok-memory.memory.items in
    subst (λ (g : BoundProgram). PredictsFirst g c.args.given.now found.ranges.items)
    c.self.view_is
    (foresees-first (program own.verified.now own.reads.items own.writes.items) memory
    (length c.timers.result.now) c.args.given.now found.delays.items found.ranges.items
    (c.in_ok-memory.ensures
    ∙ ap (λ (i : Image). map range_of_point i.points ++ map value_range i.variables)
    (c.image.ensures ∙ sym (ap (λ (g : BoundProgram). g.image) c.self.view_is)))
    (subst
    (λ (limits : List KnownDelay). PredictsScans own.verified.now memory limits c.args.given.now
    found.delays.items found.ranges.items)
    (c.as_slice-2.ensures.value ∙ c.in_ok-limits.ensures)
    (subst
    (λ (ranges : List Range). PredictsScans own.verified.now ranges c.as_slice-2.result.now
    c.args.given.now found.delays.items found.ranges.items) c.as_slice.ensures.value
    c.in_ok-found.ensures.predicts)))
