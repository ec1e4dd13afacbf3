use Rattle.bay_server_turn.specs.Turns.{after_closing_full, calls_closing_full}
use Rattle.bay_server_turn.proofs.closing.close_overflowed.Goals as goal

pub returns-clause-makes : goal.returns-clause-makes
unfolding calls_closing_full
returns-clause-makes g c = c.close_some_overflowed.ensures.makes

pub returns-clause-after : goal.returns-clause-after
unfolding after_closing_full
returns-clause-after g c = c.close_some_overflowed.ensures.after
