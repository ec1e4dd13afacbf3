use Rattle.std.proofs.Common.{sym}
use Rattle.bay_assoc.specs.SessionViews.{unit_of}
use Rattle.bay_assoc.specs.Views.{user_data_view}
use Rattle.bay_assoc.proofs.UnitLemmas.{found-first, found-more, found-end, found-stop}
use Rattle.bay_assoc.proofs.session.parse_user_parameters.Goals as goal

pub loop-unit-init : goal.loop-unit-init
loop-unit-init c = rw c.new-units.ensures (found-first c.args.octets.now)

pub loop-unit-preserved : goal.loop-unit-preserved
loop-unit-preserved c =
    found-more c.args.octets.now c.loop-unit.units c.next_unit.new.self
    (user_data_view c.loop-unit.found)
    _ (unit_of c.in-Unit.unit) c.loop-unit.invariant c.in-Unit.ensures.0
    c.user_data_with_unit-found.ensures

pub returns-in-End : goal.returns-in-End
returns-in-End c =
    sym (found-end c.args.octets.now c.loop-unit.units (user_data_view c.loop-unit.found)
    c.loop-unit.invariant c.in-End.ensures)

pub returns-in-Bad : goal.returns-in-Bad
returns-in-Bad c =
    sym (found-stop c.args.octets.now c.loop-unit.units (user_data_view c.loop-unit.found)
    c.loop-unit.invariant c.in-Bad.ensures)
