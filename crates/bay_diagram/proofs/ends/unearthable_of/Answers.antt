use Rattle.std.proofs.Common.{sym}
use Rattle.bay_diagram.specs.Reading.{reading_in}
use Rattle.bay_diagram.proofs.FoundLemmas.{no-source, source-found}
use Rattle.bay_diagram.proofs.WalkLemmas.{labels-are-walks}
use Rattle.bay_diagram.proofs.ends.unearthable_of.Goals as goal

pub returns-in-Some : goal.returns-in-Some
returns-in-Some c =
    let net = c.args.network.now in
    let r = reading_in c.args.known.now in
    source-found net r c.args.switch.now c.labels_of-gapless.result c.labels_of-inseparable.result
    (rw c.without.ensures at
    (labels-are-walks net r _ c.labels_of-gapless.result c.labels_of-gapless.ensures))
    (rw c.without-2.ensures at
    (labels-are-walks net r _ c.labels_of-inseparable.result c.labels_of-inseparable.ensures))
    c.in-Some.node.now (sym c.in-Some.ensures)

pub returns-in-None : goal.returns-in-None
returns-in-None c =
    let net = c.args.network.now in
    let r = reading_in c.args.known.now in
    no-source net r c.args.switch.now c.labels_of-gapless.result c.labels_of-inseparable.result
    (rw c.without.ensures at
    (labels-are-walks net r _ c.labels_of-gapless.result c.labels_of-gapless.ensures))
    (rw c.without-2.ensures at
    (labels-are-walks net r _ c.labels_of-inseparable.result c.labels_of-inseparable.ensures))
    (sym c.in-None.ensures)
