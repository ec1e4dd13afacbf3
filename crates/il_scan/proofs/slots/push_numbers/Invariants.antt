use Rattle.std.proofs.Common.{◌≡◌, ◌++◌, take}
use Rattle.il_scan.specs.Words.{words_of}
use Rattle.il_scan.proofs.slots.push_numbers.Given as goal

abbrev pub invariant-loop-variable : goal.invariant-loop-variable
invariant-loop-variable l =
    l.slots.items ≡ l.initial.slots.items ++ words_of (take l.variable-index l.variables)
