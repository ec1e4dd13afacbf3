use Rattle.std.proofs.Common.{◌∙◌, sym}
use Rattle.bay_diagram.specs.Reading.{reading_in}
use Rattle.bay_diagram.proofs.FoundLemmas.{joined-itself, no-target, target-found}
use Rattle.bay_diagram.proofs.WalkLemmas.{labels-are-walks}
use Rattle.bay_diagram.proofs.ends.target_of.Goals as goal

pub returns-then-is_target_at : goal.returns-then-is_target_at
returns-then-is_target_at c = record {
  fits = sym c.is_target_at.ensures ∙ c.if-is_target_at.true;
  joined = joined-itself c.args.network.now (reading_in c.args.known.now) c.args.route c.args.from;
}

pub returns-in-Some : goal.returns-in-Some
returns-in-Some c =
    let net = c.args.network.now in
    let r = reading_in c.args.known.now in
    target-found net r c.args.switch.now c.args.route c.labels_of-labels.result
    (labels-are-walks net r c.args.route c.labels_of-labels.result c.labels_of-labels.ensures)
    c.args.from c.args.target c.in-Some.node.now (sym c.in-Some.ensures)

pub returns-in-None : goal.returns-in-None
returns-in-None c =
    let net = c.args.network.now in
    let r = reading_in c.args.known.now in
    no-target net r c.args.switch.now c.args.route c.labels_of-labels.result
    (labels-are-walks net r c.args.route c.labels_of-labels.result c.labels_of-labels.ensures)
    c.args.from c.args.target (sym c.in-None.ensures)
