use Rattle.bay_server.proofs.ChangeLemmas.{StayUpTo}
use Rattle.bay_server.proofs.change_lines.has_changed.Given as goal

abbrev pub invariant-loop-switch : goal.invariant-loop-switch
invariant-loop-switch l = StayUpTo l.device l.before l.switch
