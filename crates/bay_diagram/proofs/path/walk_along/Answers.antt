use Rattle.bay_diagram.specs.Reading.{reading_in}
use Rattle.bay_diagram.proofs.FoundLemmas.{leads-labels}
use Rattle.bay_diagram.proofs.path.walk_along.Goals as goal

pub walk_within-requires-clause-joined : goal.walk_within-requires-clause-joined
walk_within-requires-clause-joined c =
    rw c.as_slice-count.ensures
    (leads-labels c.args.network.now (reading_in c.args.known.now) c.args.route c.args.a c.args.b
    c.requires)
