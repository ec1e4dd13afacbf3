use Rattle.std.proofs.Common.{◌≡◌, ◌++◌, false, map, take, drop}
use Rattle.bay_process.proofs.values.InputValues.clear.Given as goal

abbrev pub invariant-loop-index : goal.invariant-loop-index
invariant-loop-index l =
    l.self-inside.values.items
    ≡ map (λ _. false) (take l.index l.initial.self-inside.values.items)
    ++ drop l.index l.initial.self-inside.values.items
