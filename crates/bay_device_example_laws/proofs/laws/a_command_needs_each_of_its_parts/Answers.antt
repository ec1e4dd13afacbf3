use Rattle.bay_device_example_laws.proofs.CommandLemmas.{is-at-remote, is-commanded, not-local, not-unscanned, not-old, not-stale, not-lost, not-blocked, not-busy, not-silent}
use Rattle.bay_device_example_laws.proofs.laws.a_command_needs_each_of_its_parts.Goals as goal

pub returns-clause-commanded : goal.returns-clause-commanded
returns-clause-commanded l = is-commanded

pub returns-clause-unscanned : goal.returns-clause-unscanned
returns-clause-unscanned l = not-unscanned

pub returns-clause-old : goal.returns-clause-old
returns-clause-old l = not-old

pub returns-clause-stale : goal.returns-clause-stale
returns-clause-stale l = not-stale

pub returns-clause-lost : goal.returns-clause-lost
returns-clause-lost l = not-lost

pub returns-clause-blocked : goal.returns-clause-blocked
returns-clause-blocked l = not-blocked

pub returns-clause-busy : goal.returns-clause-busy
returns-clause-busy l = not-busy

pub returns-clause-silent : goal.returns-clause-silent
returns-clause-silent l = not-silent

pub returns-clause-remote : goal.returns-clause-remote
returns-clause-remote l = is-at-remote

pub returns-clause-local : goal.returns-clause-local
returns-clause-local l = not-local
