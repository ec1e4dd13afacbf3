use Rattle.bay_device_example_laws.proofs.OperateLemmas.{is-operate, not-left-out, not-doubled, not-exchanged, not-silent, not-unasked, not-accepted, not-on-closed, not-elsewhere, tells-nothing}
use Rattle.bay_device_example_laws.proofs.laws.a_command_is_of_octets_that_requested_it.Goals as goal

pub returns-clause-accepted : goal.returns-clause-accepted
returns-clause-accepted l = is-operate

pub returns-clause-left_out : goal.returns-clause-left_out
returns-clause-left_out l = not-left-out

pub returns-clause-doubled : goal.returns-clause-doubled
returns-clause-doubled l = not-doubled

pub returns-clause-exchanged : goal.returns-clause-exchanged
returns-clause-exchanged l = not-exchanged

pub returns-clause-silent : goal.returns-clause-silent
returns-clause-silent l = not-silent

pub returns-clause-unasked : goal.returns-clause-unasked
returns-clause-unasked l = not-unasked

pub returns-clause-refused : goal.returns-clause-refused
returns-clause-refused l = not-accepted

pub returns-clause-closed : goal.returns-clause-closed
returns-clause-closed l = not-on-closed

pub returns-clause-elsewhere : goal.returns-clause-elsewhere
returns-clause-elsewhere l = not-elsewhere

pub returns-clause-nothing : goal.returns-clause-nothing
returns-clause-nothing l = tells-nothing
