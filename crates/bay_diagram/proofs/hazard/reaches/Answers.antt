use Rattle.std.proofs.Common.{ℕ, Bool, ap, ◌∙◌}
use Rattle.bay_diagram.specs.Hazards.{reaches_by}
use Rattle.bay_diagram.specs.Reading.{reading_in}
use Rattle.bay_diagram.proofs.WalkLemmas.{labels-are-walks}
use Rattle.bay_diagram.proofs.hazard.reaches.Goals as goal

pub returns : goal.returns
returns c =
    c.reaches_by.ensures
    ∙ ap (λ (joins : ℕ → ℕ → Bool). reaches_by c.args.network.now (reading_in c.args.known.now)
    c.args.switch.now joins c.args.from c.args.target)
    (labels-are-walks c.args.network.now (reading_in c.args.known.now) c.args.route
    c.labels_of-labels.result c.labels_of-labels.ensures)
