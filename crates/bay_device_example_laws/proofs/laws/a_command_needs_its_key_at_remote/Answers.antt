use Rattle.bay_device_example_laws.proofs.KeyLemmas.{after-loss, at-local, at-remote, never-told, not-accepted, of-another, remote-again, still-remote, without-key}
use Rattle.bay_device_example_laws.proofs.laws.a_command_needs_its_key_at_remote.Goals as goal

pub returns-clause-remote : goal.returns-clause-remote
returns-clause-remote l = at-remote

pub returns-clause-still : goal.returns-clause-still
returns-clause-still l = still-remote

pub returns-clause-again : goal.returns-clause-again
returns-clause-again l = remote-again

pub returns-clause-untold : goal.returns-clause-untold
returns-clause-untold l = never-told

pub returns-clause-local : goal.returns-clause-local
returns-clause-local l = at-local

pub returns-clause-of_another : goal.returns-clause-of_another
returns-clause-of_another l = of-another

pub returns-clause-lost : goal.returns-clause-lost
returns-clause-lost l = after-loss

pub returns-clause-refused : goal.returns-clause-refused
returns-clause-refused l = not-accepted

pub returns-clause-keyless : goal.returns-clause-keyless
returns-clause-keyless l = without-key
