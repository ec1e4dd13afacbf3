use Rattle.std.specs.List.{All}
use Rattle.bay_audit.specs.Rules.{HasProcess, IsMetOutside}
use Rattle.bay_audit.proofs.audit.answer_demand.Given as goal

abbrev pub invariant-loop : goal.invariant-loop
invariant-loop l = IsMetOutside l.program l.demand l.left.items × All HasProcess l.left.items
