use Rattle.bay_device_example_laws.proofs.CommandLemmas.{closes-alone, opens-alone, no-close, no-open, other-close, other-open}
use Rattle.bay_device_example_laws.proofs.laws.a_close_needs_its_own_release.Goals as goal

pub returns-clause-close : goal.returns-clause-close
returns-clause-close l = closes-alone

pub returns-clause-open : goal.returns-clause-open
returns-clause-open l = opens-alone

pub returns-clause-no_close : goal.returns-clause-no_close
returns-clause-no_close l = no-close

pub returns-clause-no_open : goal.returns-clause-no_open
returns-clause-no_open l = no-open

pub returns-clause-other_close : goal.returns-clause-other_close
returns-clause-other_close l = other-close

pub returns-clause-other_open : goal.returns-clause-other_open
returns-clause-other_open l = other-open
