use Rattle.std.proofs.Common.{◌∙◌}
use Rattle.bay_diagram.specs.Reading.{reading_in}
use Rattle.bay_diagram.proofs.WalkLemmas.{labels-lead}
use Rattle.bay_diagram.proofs.walk.leads.Goals as goal

pub returns : goal.returns
returns c =
    c.is_same_label.ensures
    ∙ labels-lead c.args.network.now (reading_in c.args.known.now) c.args.route
    c.labels_of-labels.result c.labels_of-labels.ensures c.args.a c.args.b
