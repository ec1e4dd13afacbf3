use Rattle.bay_server_turn.proofs.closing.+close_some_overflowed.Given as goal

abbrev pub decreases-close_some_overflowed : goal.decreases-close_some_overflowed
decreases-close_some_overflowed g l = l.count
