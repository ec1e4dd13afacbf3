use Rattle.std.proofs.Common.{◌∙◌, ◌-◌, ◌<◌, ◌==◌, length, arith, refl, sym}
use Rattle.bay_diagram.specs.Reading.{reading_in}
use Rattle.bay_diagram.specs.Walks.{may_lead_over}
use Rattle.bay_diagram.proofs.PathLemmas.{walk-append, walk-sides}
use Rattle.bay_diagram.proofs.path.+walk_within.Goals as goal

pub walk_within-requires-2 : goal.walk_within-requires-2
walk_within-requires-2 t c =
    let within : c.args.count - 1 < length c.args.network.now.branches =
    omega (arith, c.requires.within, c.if-count-eq0.false) in (
      omega (arith, c.decreases, c.if-count-eq0.false),
      (
        omega (arith, c.requires.within),
        (walk-sides c.args.network.now (reading_in c.args.known.now) c.args.route (c.args.count - 1)
            _
            within c.args.a c.args.b c.labels_among-labels.result
            (λ n. c.labels_among-labels.ensures n ∙ rw c.as_slice.ensures refl) c.args.count
            (omega (arith, c.if-count-eq0.false)) c.requires.joined
            (sym c.is_same_label.ensures ∙ c.if-is_same_label.false)
            c.as_slice-2.result.now c.as_slice-2.ensures c.sides-near.result
            c.sides-near.ensures).near,
      ),
    )

pub walk_within-requires-3 : goal.walk_within-requires-3
walk_within-requires-3 t c =
    let within : c.args.count - 1 < length c.args.network.now.branches =
    omega (arith, c.requires.within, c.if-count-eq0.false) in (
      omega (arith, c.decreases, c.if-count-eq0.false),
      (
        omega (arith, c.requires.within),
        (walk-sides c.args.network.now (reading_in c.args.known.now) c.args.route (c.args.count - 1)
            _
            within c.args.a c.args.b c.labels_among-labels.result
            (λ n. c.labels_among-labels.ensures n ∙ rw c.as_slice.ensures refl) c.args.count
            (omega (arith, c.if-count-eq0.false)) c.requires.joined
            (sym c.is_same_label.ensures ∙ c.if-is_same_label.false)
            c.as_slice-2.result.now c.as_slice-2.ensures c.sides-near.result
            c.sides-near.ensures).far,
      ),
    )

pub returns : goal.returns
returns t c =
    let net = c.args.network.now in
    let r = reading_in c.args.known.now in
    let within : c.args.count - 1 < length net.branches =
    omega (arith, c.requires.within, c.if-count-eq0.false) in
    rw (
      c.in_ok-extend_from_slice.ensures.items,
      c.in_ok-push.ensures.items,
      c.as_slice-3.ensures.value,
    )
    (walk-append net (may_lead_over net r c.args.route) (λ n. n == c.args.b) c.sides-near.result.0
    _ c.in_ok-rest.rest.items
    (walk-sides net r c.args.route (c.args.count - 1) _
    within c.args.a c.args.b c.labels_among-labels.result
    (λ n. c.labels_among-labels.ensures n ∙ rw c.as_slice.ensures refl) c.args.count
    (omega (arith, c.if-count-eq0.false)) c.requires.joined
    (sym c.is_same_label.ensures ∙ c.if-is_same_label.false)
    c.as_slice-2.result.now c.as_slice-2.ensures c.sides-near.result c.sides-near.ensures).step
    c.in_ok-rest.ensures c.args.a c.in_ok-steps.steps.items c.in_ok-steps.ensures)
