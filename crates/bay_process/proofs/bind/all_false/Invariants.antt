use Rattle.std.proofs.Common.{◌≡◌, map, take, false}
use Rattle.bay_process.proofs.bind.all_false.Given as goal

abbrev pub invariant-loop-input : goal.invariant-loop-input
invariant-loop-input l = l.values.items ≡ map (λ _. false) (take l._input-index l.inputs)
