use Rattle.bay_device_example_laws.proofs.ProcessLemmas.{same-itself, moved-differs, doubted-differs, input-differs, measured-differs, measure-doubted-differs}
use Rattle.bay_device_example_laws.proofs.laws.a_process_is_the_same_until_something_changes.Goals as goal

pub returns-clause-same : goal.returns-clause-same
returns-clause-same l = same-itself

pub returns-clause-position : goal.returns-clause-position
returns-clause-position l = moved-differs

pub returns-clause-quality : goal.returns-clause-quality
returns-clause-quality l = doubted-differs

pub returns-clause-input : goal.returns-clause-input
returns-clause-input l = input-differs

pub returns-clause-measure : goal.returns-clause-measure
returns-clause-measure l = measured-differs

pub returns-clause-doubt : goal.returns-clause-doubt
returns-clause-doubt l = measure-doubted-differs
