use Rattle.std.proofs.Common.{List, map, subst, ◌∙◌, ap}
use Rattle.il_range.specs.declared.delay.KnownDelay.{KnownDelay}
use Rattle.il_range.specs.declared.range.Range.{Range}
use Rattle.bay_audit.specs.Cases.{range_of}
use Rattle.bay_audit.specs.Rules.{PredictsRanges}
use Rattle.bay_audit.proofs.verdict.run_pass.Goals as goal
use Rattle.bay_audit.proofs.RuleLemmas.{decision-by}

pub returns : goal.returns
returns c =
    let g = c.args.program.now in
    let prediction = c.in_ok-prediction.prediction in
    decision-by g c.args.demand.now c.args.case.now prediction.ranges.items prediction.delays.items
    (subst
    (λ (limits : List KnownDelay). PredictsRanges g limits (map (range_of c.args.case.now) g.reads)
    prediction.delays.items prediction.ranges.items)
    c.as_slice.ensures
    (subst
    (λ (given : List Range). PredictsRanges g c.as_slice.result.now given prediction.delays.items
    prediction.ranges.items)
    (c.as_slice-2.ensures.value ∙ c.in_ok-input_ranges.ensures
    ∙ ap (map (range_of c.args.case.now)) c.reads.ensures)
    c.in_ok-prediction.ensures.predicts))
    c.args.covered c.in_ok-range.range c.requires c.in_ok-range.ensures c.decide.result
    c.decide.ensures
