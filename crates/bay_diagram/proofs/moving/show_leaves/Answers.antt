use Rattle.std.proofs.Common.{sym}
use Rattle.bay_diagram.specs.Hazards.{leaves_current, leaves_any}
use Rattle.bay_diagram.specs.Reading.{reading_in}
use Rattle.bay_diagram.proofs.FoundLemmas.{find-none}
use Rattle.bay_diagram.proofs.ShowLemmas.{and-none-left, and-none-right, leaves-shown, left-parts, opposed}
use Rattle.bay_diagram.proofs.moving.show_leaves.Goals as goal

pub returns-in_default : goal.returns-in_default
returns-in_default c =
    find-none _ c.args.network.now.branches (sym (rw c.in_default.is at c.left_to.ensures))

pub returns-in_default-2 : goal.returns-in_default-2
returns-in_default-2 c =
    let net = c.args.network.now in
    let r = reading_in c.args.known.now in
    let s = c.args.switch.now in
    let d = c.in-Some.other.now in
    opposed (leaves_current net r s d) (leaves_any net r s)
    (left-parts net r s d (sym c.in-Some.ensures))
    (and-none-left _ _ (rw c.in_default-2.is at c.in_ok-beside.ensures))

pub returns-in_default-3 : goal.returns-in_default-3
returns-in_default-3 c =
    let net = c.args.network.now in
    let r = reading_in c.args.known.now in
    let s = c.args.switch.now in
    let d = c.in-Some.other.now in
    opposed (leaves_current net r s d) (leaves_any net r s)
    (left-parts net r s d (sym c.in-Some.ensures))
    (and-none-right _ _ (rw c.in_default-3.is at c.in_ok-walk.ensures))

pub returns : goal.returns
returns c =
    leaves-shown c.args.network.now (reading_in c.args.known.now) c.args.switch.now
    c.in-Some.other.now (sym c.in-Some.ensures) c.in-Some-2.beside c.in-Some-3.walk
    (rw c.in-Some-2.is at c.in_ok-beside.ensures) (rw c.in-Some-3.is at c.in_ok-walk.ensures)
