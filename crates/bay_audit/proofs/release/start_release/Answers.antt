use Rattle.std.proofs.Common.{◌∙◌, [], List, ap, ap₂, map, subst}
use Rattle.bay_base.specs.declared.point.Source.{Source}
use Rattle.il_range.specs.declared.range.Range.{Range}
use Rattle.bay_audit.specs.Cases.{range_of}
use Rattle.bay_audit.specs.Rules.{PredictsFirst, release_range}
use Rattle.bay_audit.specs.declared.case.TestAnswer.{TestAnswer}
use Rattle.bay_audit.proofs.RuleLemmas.{start-refused, start-released}
use Rattle.bay_audit.proofs.release.start_release.Goals as goal

pub returns-in-Yes : goal.returns-in-Yes
returns-in-Yes c =
    let g = c.args.program.now in
    let ranges = c.in_ok-prediction.prediction.ranges.items in
    start-released g c.args.switch c.args.operation ranges
    (subst (λ (given : List Range). PredictsFirst g given ranges)
    (c.as_slice.ensures.value ∙ c.in_ok-given.ensures
    ∙ ap₂ (λ (case : List TestAnswer) (reads : List Source). map (range_of case) reads)
    c.new-case.ensures c.reads.ensures)
    c.in_ok-prediction.ensures.predicts)
    c.in_ok-release_range.field-0
    (c.in_ok-release_range.ensures
    ∙ ap (λ (rs : List Range). release_range g.image.points g.writes rs c.args.switch
    c.args.operation) c.as_slice-ranges.ensures.value)
    c.in-Yes.is

pub returns-in-No : goal.returns-in-No
returns-in-No c =
    let g = c.args.program.now in
    let ranges = c.in_ok-prediction.prediction.ranges.items in
    start-refused g c.args.switch c.args.operation ranges
    (subst (λ (given : List Range). PredictsFirst g given ranges)
    (c.as_slice.ensures.value ∙ c.in_ok-given.ensures
    ∙ ap₂ (λ (case : List TestAnswer) (reads : List Source). map (range_of case) reads)
    c.new-case.ensures c.reads.ensures)
    c.in_ok-prediction.ensures.predicts)
    c.in_ok-release_range.field-0
    (c.in_ok-release_range.ensures
    ∙ ap (λ (rs : List Range). release_range g.image.points g.writes rs c.args.switch
    c.args.operation) c.as_slice-ranges.ensures.value)
    c.in-No.is
