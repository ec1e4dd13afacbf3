use Rattle.std.proofs.Common.{◌≡◌, ◌++◌}
use Rattle.bay_audit.specs.Cases.{bad_positions, false_inputs}
use Rattle.bay_audit.proofs.case.Case.lost.Given as goal

abbrev pub invariant-loop-switch : goal.invariant-loop-switch
invariant-loop-switch l = l.literals.items ≡ bad_positions l.switch

abbrev pub invariant-loop-input : goal.invariant-loop-input
invariant-loop-input l = l.literals.items ≡ bad_positions l.switches ++ false_inputs l.input
