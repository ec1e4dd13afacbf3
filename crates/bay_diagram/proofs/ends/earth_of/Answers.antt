use Rattle.std.proofs.Common.{sym}
use Rattle.bay_diagram.specs.Reading.{reading_in}
use Rattle.bay_diagram.proofs.FoundLemmas.{earth-found, no-earth}
use Rattle.bay_diagram.proofs.WalkLemmas.{labels-are-walks}
use Rattle.bay_diagram.proofs.ends.earth_of.Goals as goal

pub returns-in-Some : goal.returns-in-Some
returns-in-Some c =
    let net = c.args.network.now in
    let r = reading_in c.args.known.now in
    earth-found net r c.args.switch.now c.args.route c.labels_of-labels.result
    (labels-are-walks net r c.args.route c.labels_of-labels.result c.labels_of-labels.ensures)
    c.args.from c.in-Some.branch.now (sym c.in-Some.ensures)

pub returns-in-None : goal.returns-in-None
returns-in-None c =
    let net = c.args.network.now in
    let r = reading_in c.args.known.now in
    no-earth net r c.args.switch.now c.args.route c.labels_of-labels.result
    (labels-are-walks net r c.args.route c.labels_of-labels.result c.labels_of-labels.ensures)
    c.args.from (sym c.in-None.ensures)
