use Rattle.bay_device_example_laws.proofs.ScanLemmas.{same-means, no-slot, no-rows}
use Rattle.bay_device_example_laws.proofs.laws.a_program_of_nothing_changes_nothing.Goals as goal

pub returns-clause-same : goal.returns-clause-same
returns-clause-same l = same-means

pub returns-clause-slots : goal.returns-clause-slots
returns-clause-slots l = no-slot

pub returns-clause-rows : goal.returns-clause-rows
returns-clause-rows l = no-rows
