use Rattle.std.proofs.Common.{length}
use Rattle.bay_assoc.specs.Views.{user_data_view}
use Rattle.bay_assoc.proofs.UnitLemmas.{Found}
use Rattle.bay_assoc.proofs.session.parse_user_parameters.Given as goal

abbrev pub invariant-loop-unit : goal.invariant-loop-unit
invariant-loop-unit l = Found l.octets l.units (user_data_view l.found)

abbrev pub decreases-loop-unit : goal.decreases-loop-unit
decreases-loop-unit l = length l.units
