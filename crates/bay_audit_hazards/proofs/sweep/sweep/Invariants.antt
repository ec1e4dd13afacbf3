use Rattle.bay_audit_hazards.proofs.CountLemmas.{AreLeft}
use Rattle.bay_audit_hazards.proofs.sweep.sweep.Given as goal

abbrev pub invariant-loop : goal.invariant-loop
invariant-loop l = AreLeft l.network l.switch l.operation l.fn.cases.items l.left.items
