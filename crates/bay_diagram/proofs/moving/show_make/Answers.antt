use Rattle.std.proofs.Common.{◌≡◌, true}
use Rattle.bay_diagram.specs.Hazards.{makes_current, makes_from}
use Rattle.bay_diagram.specs.Reading.{reading_in}
use Rattle.bay_diagram.specs.Shown.{IsFound, shows_make, shows_make_from}
use Rattle.bay_diagram.specs.declared.shown.ShownWalk.{ShownWalk}
use Rattle.bay_diagram.proofs.PathLemmas.{or-left, or-right}
use Rattle.bay_diagram.proofs.ShowLemmas.{make-last, ok-more}
use Rattle.bay_diagram.proofs.moving.show_make.Goals as goal

pub returns-in-Some : goal.returns-in-Some
returns-in-Some c =
    let net = c.args.network.now in
    let r = reading_in c.args.known.now in
    let s = c.args.switch.now in
    let d = c.args.other.now in
    or-left (shows_make_from net r s d s.one s.other d.one d.other c.in-Some.walk) _
    (rw (c.in-Some.is, c.ends_of.ensures) at c.in_ok-walk.ensures)

pub returns-in-Some-2 : goal.returns-in-Some-2
returns-in-Some-2 c =
    let net = c.args.network.now in
    let r = reading_in c.args.known.now in
    let s = c.args.switch.now in
    let d = c.args.other.now in
    let w = c.in-Some-2.walk in
    or-right (shows_make_from net r s d s.one s.other d.one d.other w) _
    (or-left (shows_make_from net r s d s.one s.other d.other d.one w) _
    (rw (c.in-Some-2.is, c.ends_of-in-None.ensures) at c.in_ok-walk-in-None.ensures))

pub returns-in-Some-3 : goal.returns-in-Some-3
returns-in-Some-3 c =
    let net = c.args.network.now in
    let r = reading_in c.args.known.now in
    let s = c.args.switch.now in
    let d = c.args.other.now in
    let w = c.in-Some-3.walk in
    or-right (shows_make_from net r s d s.one s.other d.one d.other w) _
    (or-right (shows_make_from net r s d s.one s.other d.other d.one w) _
    (or-left (shows_make_from net r s d s.other s.one d.one d.other w) _
    (rw (c.in-Some-3.is, c.ends_of-in-None-2.ensures) at c.in_ok-walk-in-None-2.ensures)))

pub returns-in-None-3 : goal.returns-in-None-3
returns-in-None-3 c =
    let net = c.args.network.now in
    let r = reading_in c.args.known.now in
    let s = c.args.switch.now in
    let d = c.args.other.now in
    ok-more
    (IsFound (λ (w : ShownWalk). shows_make_from net r s d s.other s.one d.other d.one w ≡ true)
    (makes_from net r s d s.other s.one d.other d.one))
    (IsFound (λ (w : ShownWalk). shows_make net r s d w ≡ true) (makes_current net r s d))
    (λ o. make-last net r s d o
    (rw (c.in-None.is, c.ends_of.ensures) at c.in_ok-walk.ensures)
    (rw (c.in-None-2.is, c.ends_of-in-None.ensures) at c.in_ok-walk-in-None.ensures)
    (rw (c.in-None-3.is, c.ends_of-in-None-2.ensures) at c.in_ok-walk-in-None-2.ensures))
    c.show_make_from-in-None-3.result
    (rw c.ends_of-in-None-3.ensures at c.show_make_from-in-None-3.ensures)
