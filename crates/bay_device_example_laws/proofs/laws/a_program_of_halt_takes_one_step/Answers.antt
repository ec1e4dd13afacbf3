use Rattle.bay_device_example_laws.proofs.ScanLemmas.{one-step, no-step, two-steps, no-refusal, no-end}
use Rattle.bay_device_example_laws.proofs.laws.a_program_of_halt_takes_one_step.Goals as goal

pub returns-clause-one : goal.returns-clause-one
returns-clause-one l = one-step

pub returns-clause-none : goal.returns-clause-none
returns-clause-none l = no-step

pub returns-clause-two : goal.returns-clause-two
returns-clause-two l = two-steps

pub returns-clause-refused : goal.returns-clause-refused
returns-clause-refused l = no-refusal

pub returns-clause-trapped : goal.returns-clause-trapped
returns-clause-trapped l = no-end
