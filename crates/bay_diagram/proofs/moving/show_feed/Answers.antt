use Rattle.bay_diagram.specs.Reading.{reading_in}
use Rattle.bay_diagram.proofs.ShowLemmas.{feed-shown}
use Rattle.bay_diagram.proofs.moving.show_feed.Goals as goal

pub returns : goal.returns
returns c =
    feed-shown c.args.network.now (reading_in c.args.known.now) c.args.switch.now c.in-Some.start
    c.in_ok-walk.walk c.args.other.now c.args.x c.args.y c.in-Some-target_of.end
    (rw c.without_both-of_x.ensures at c.in-Some.ensures)
    (rw c.without_both-of_y.ensures at c.in-Some-target_of.ensures)
    (rw (c.without_both-of_x.ensures, c.without_both-of_y.ensures) at c.in_ok-walk.ensures)
