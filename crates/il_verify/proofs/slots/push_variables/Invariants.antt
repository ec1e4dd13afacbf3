use Rattle.std.proofs.Common.{◌≡◌, ◌++◌, take}
use Rattle.std.specs.Prelude.{map}
use Rattle.il_verify.specs.Slots.{variable_slot}
use Rattle.il_verify.proofs.slots.push_variables.Given as goal

abbrev pub invariant-loop-variable : goal.invariant-loop-variable
invariant-loop-variable l =
    l.slots.items ≡ l.initial.slots.items ++ map variable_slot (take l.variable-index l.variables)
