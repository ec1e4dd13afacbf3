use Rattle.std.proofs.Common.{refl}
use Rattle.bay_diagram.specs.Reading.{reading_in}
use Rattle.bay_diagram.specs.Shown.{is_walk}
use Rattle.bay_diagram.specs.Walks.{may_lead_over}
use Rattle.bay_diagram.proofs.PathLemmas.{walk-ends}
use Rattle.bay_diagram.proofs.path.walk_through.Goals as goal

pub returns : goal.returns
returns c =
    let net = c.args.network.now in
    let over = may_lead_over net (reading_in c.args.known.now) c.args.routes.1 in
    record {
      starts = refl;
      through = λ ends fits. rw c.new.ensures
          (c.in_ok-steps.ensures (is_walk net over ends c.args.b)
          (rw c.as_slice.ensures.value
          (walk-ends net over c.args.end ends fits c.args.b c.in_ok-rest.rest.items
          c.in_ok-rest.ensures)));
    }
