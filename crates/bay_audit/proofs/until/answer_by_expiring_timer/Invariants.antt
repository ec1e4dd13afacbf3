use Rattle.bay_audit.proofs.until.answer_by_expiring_timer.Given as goal

abbrev pub invariant-loop-timer : goal.invariant-loop-timer
invariant-loop-timer l = Unit {0}
