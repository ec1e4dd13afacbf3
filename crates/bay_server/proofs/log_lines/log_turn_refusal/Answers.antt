use Rattle.bay_server.proofs.log_lines.log_turn_refusal.Goals as goal

pub returns-in-MomentTooLarge : goal.returns-in-MomentTooLarge
returns-in-MomentTooLarge g c = rw c.in-MomentTooLarge.is c.log.ensures
