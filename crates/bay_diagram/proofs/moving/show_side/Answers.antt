use Rattle.std.proofs.Common.{◌∙◌, sym}
use Rattle.bay_diagram.specs.Reading.{reading_in}
use Rattle.bay_diagram.proofs.ShowLemmas.{side-shown}
use Rattle.bay_diagram.proofs.moving.show_side.Goals as goal

pub returns : goal.returns
returns c =
    side-shown c.args.network.now (reading_in c.args.known.now) c.args.switch.now
    c.args.other.now c.args.a c.args.b c.in_ok-walk.walk
    (sym c.lies_beside.ensures ∙ c.if-not-lies_beside.false)
    (rw (c.without_both.ensures, c.without_both-2.ensures) at c.in_ok-walk.ensures)
