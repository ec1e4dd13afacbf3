use Rattle.bay_device_example_laws.proofs.BackingLemmas.{own-backs, left-backs, over-backs-none, nothing-backs, another-backs-none, cancelled-backs-none, used-backs-none, refused-backs-none, closed-backs-none, opened-backs-none, taken-backs-none, moved-backs-none}
use Rattle.bay_device_example_laws.proofs.laws.a_select_backs_its_own_operate.Goals as goal

pub returns-clause-backed : goal.returns-clause-backed
returns-clause-backed l = own-backs

pub returns-clause-left : goal.returns-clause-left
returns-clause-left l = left-backs

pub returns-clause-over : goal.returns-clause-over
returns-clause-over l = over-backs-none

pub returns-clause-missing : goal.returns-clause-missing
returns-clause-missing l = nothing-backs

pub returns-clause-of_another : goal.returns-clause-of_another
returns-clause-of_another l = another-backs-none

pub returns-clause-cancelled : goal.returns-clause-cancelled
returns-clause-cancelled l = cancelled-backs-none

pub returns-clause-used : goal.returns-clause-used
returns-clause-used l = used-backs-none

pub returns-clause-refused : goal.returns-clause-refused
returns-clause-refused l = refused-backs-none

pub returns-clause-closed : goal.returns-clause-closed
returns-clause-closed l = closed-backs-none

pub returns-clause-opened : goal.returns-clause-opened
returns-clause-opened l = opened-backs-none

pub returns-clause-taken : goal.returns-clause-taken
returns-clause-taken l = taken-backs-none

pub returns-clause-moved : goal.returns-clause-moved
returns-clause-moved l = moved-backs-none
