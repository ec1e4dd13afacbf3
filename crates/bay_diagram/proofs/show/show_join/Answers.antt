use Rattle.bay_diagram.specs.Reading.{reading_in}
use Rattle.bay_diagram.proofs.ShowLemmas.{join-shown}
use Rattle.bay_diagram.proofs.show.show_join.Goals as goal

pub returns : goal.returns
returns c =
    rw c.shown_by.ensures
    (join-shown c.args.network.now (reading_in c.args.known.now) c.args.switch.now c.in-Some.start
    c.in_ok-walk.walk c.in-Some-target_of.end
    (rw c.without-of_one.ensures at c.in-Some.ensures)
    (rw c.without-of_other.ensures at c.in-Some-target_of.ensures)
    (rw (c.without-of_one.ensures, c.without-of_other.ensures) at c.in_ok-walk.ensures))
