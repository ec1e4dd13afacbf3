use Rattle.bay_device_example_laws.proofs.OperateLemmas.{behind-open, not-unopened, not-refused, not-closed}
use Rattle.bay_device_example_laws.proofs.laws.a_command_is_of_an_association_that_was_opened.Goals as goal

pub returns-clause-opened : goal.returns-clause-opened
returns-clause-opened l = behind-open

pub returns-clause-unopened : goal.returns-clause-unopened
returns-clause-unopened l = not-unopened

pub returns-clause-refused : goal.returns-clause-refused
returns-clause-refused l = not-refused

pub returns-clause-closed : goal.returns-clause-closed
returns-clause-closed l = not-closed
