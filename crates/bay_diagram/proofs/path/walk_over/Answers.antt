use Rattle.bay_diagram.specs.Reading.{reading_in}
use Rattle.bay_diagram.specs.Walks.{may_lead_over}
use Rattle.bay_diagram.proofs.PathLemmas.{free-apart, through-append}
use Rattle.bay_diagram.proofs.path.walk_over.Goals as goal

pub returns : goal.returns
returns c goes_on h =
    let net = c.args.network.now in
    let r = reading_in c.args.known.now in
    rw (c.in_ok-extend_from_slice.ensures.items, c.in_ok-push.ensures.items)
    (through-append net (may_lead_over net r c.args.route) c.args.switch.now
    (free-apart net r c.args.route c.args.switch.now.number c.requires.apart)
    c.args.a c.args.b goes_on c.args.rest.now h c.args.from c.in_ok-steps.steps.items
    c.in_ok-steps.ensures)
