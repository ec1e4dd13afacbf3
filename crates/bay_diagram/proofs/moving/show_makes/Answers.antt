use Rattle.std.proofs.Common.{sym}
use Rattle.bay_diagram.specs.Hazards.{makes_any}
use Rattle.bay_diagram.specs.Reading.{reading_in}
use Rattle.bay_diagram.proofs.FoundLemmas.{find-none}
use Rattle.bay_diagram.proofs.ShowLemmas.{makes-shown, no-makes}
use Rattle.bay_diagram.proofs.moving.show_makes.Goals as goal

pub returns-in_default : goal.returns-in_default
returns-in_default c =
    find-none _ c.args.network.now.branches (sym (rw c.in_default.is at c.made_through.ensures))

pub returns-in-Some-2 : goal.returns-in-Some-2
returns-in-Some-2 c =
    makes-shown c.args.network.now (reading_in c.args.known.now) c.args.switch.now
    c.in-Some.other.now (sym c.in-Some.ensures) c.in-Some-2.walk
    (rw c.in-Some-2.is at c.in_ok-walk.ensures)

pub returns-in-None : goal.returns-in-None
returns-in-None c =
    no-makes c.args.network.now (reading_in c.args.known.now) c.args.switch.now
    c.in-Some.other.now (sym c.in-Some.ensures) (rw c.in-None.is at c.in_ok-walk.ensures)
    (makes_any c.args.network.now (reading_in c.args.known.now) c.args.switch.now)
