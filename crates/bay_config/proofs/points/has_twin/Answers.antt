use Rattle.std.proofs.Common.{◌∙◌, true, false, sym, ap}
use Rattle.std.specs.List.{list_any}
use Rattle.std.specs.Str.{bytes_eq}
use Rattle.bay_config.proofs.PointLemmas.{has_twin-cons}
use Rattle.bay_config.proofs.points.has_twin.Goals as goal

pub returns-then-has_name : goal.returns-then-has_name
returns-then-has_name c =
    sym (c.loop-point.invariant
    ∙ has_twin-cons _ c.in-Some.point.now c.in-Some.later.now true c.in-Some.ensures.cases.0
    (ap (λ n. list_any (λ q. bytes_eq n q.name) c.in-Some.later.now) (sym c.as_str.ensures)
    ∙ sym c.has_name.ensures ∙ c.if-has_name.true))

pub loop-point-preserved : goal.loop-point-preserved
loop-point-preserved c =
    c.loop-point.invariant ∙ has_twin-cons _ c.in-Some.point.now c.in-Some.later.now false
    c.in-Some.ensures.cases.0
    (ap (λ n. list_any (λ q. bytes_eq n q.name) c.in-Some.later.now) (sym c.as_str.ensures)
    ∙ sym c.has_name.ensures ∙ c.if-has_name.false)
