use Rattle.std.proofs.Common.{ℕ, Bool, ap, refl, ◌∙◌}
use Rattle.bay_diagram.specs.Hazards.{earths_by}
use Rattle.bay_diagram.specs.Reading.{reading_in}
use Rattle.bay_diagram.specs.Walks.{joined_in, leads}
use Rattle.bay_diagram.proofs.WalkLemmas.{labels-are-walks}
use Rattle.bay_diagram.proofs.hazard.earths.Goals as goal

pub returns : goal.returns
returns c =
    let net = c.args.network.now in
    let r = reading_in c.args.known.now in
    let s = c.args.switch.now in
    c.earths_by.ensures
    ∙ (ap (λ (joins : ℕ → ℕ → Bool). earths_by net r s joins
    (joined_in c.labels_of-inseparable.result))
    (labels-are-walks net r _ c.labels_of-gapless.result c.labels_of-gapless.ensures)
    ∙ (ap (λ (joins : ℕ → ℕ → Bool). earths_by net r s (leads net r c.without.result) joins)
    (labels-are-walks net r _ c.labels_of-inseparable.result c.labels_of-inseparable.ensures)
    ∙ rw (c.without.ensures, c.without-2.ensures) refl))
