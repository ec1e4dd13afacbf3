use Rattle.bay_diagram.specs.Reading.{reading_in}
use Rattle.bay_diagram.proofs.ShowLemmas.{chain-shown}
use Rattle.bay_diagram.proofs.moving.show_chain.Goals as goal

pub returns : goal.returns
returns c =
    rw c.new.ensures
    (chain-shown c.args.network.now (reading_in c.args.known.now) c.args.switch.now
    c.args.other.now c.args.ends.a c.args.ends.b c.args.ends.x c.args.ends.y c.args.nodes
    c.args.first c.args.last c.in-Some.start c.in-Some-target_of.end
    (rw c.without_both-of_b.ensures at c.in-Some.ensures)
    (rw c.without_both-of_y.ensures at c.in-Some-target_of.ensures)
    c.in_ok-steps.steps.items c.in_ok-steps-2.steps.items c.in_ok-steps-3.steps.items
    (rw c.without_both-of_y.ensures at c.in_ok-steps.ensures)
    (rw (c.without_both-between.ensures, c.as_slice.ensures.value) at c.in_ok-steps-2.ensures)
    (rw (c.without_both-of_b.ensures, c.as_slice-2.ensures.value) at c.in_ok-steps-3.ensures))
