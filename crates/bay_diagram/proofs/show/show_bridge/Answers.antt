use Rattle.bay_diagram.specs.Reading.{reading_in}
use Rattle.bay_diagram.proofs.ShowLemmas.{bridge-shown}
use Rattle.bay_diagram.proofs.show.show_bridge.Goals as goal

pub returns : goal.returns
returns c =
    rw c.shown_by.ensures
    (bridge-shown c.args.network.now (reading_in c.args.known.now) c.args.switch.now c.in-Some.start
    c.in_ok-walk.walk c.args.a c.args.b c.in-Some-earth_of.end
    (rw c.without-of_a.ensures at c.in-Some.ensures)
    (rw c.without-of_b.ensures at c.in-Some-earth_of.ensures)
    (rw (c.without-of_a.ensures, c.without-of_b.ensures) at c.in_ok-walk.ensures))
