use Rattle.bay_device_example_laws.proofs.ScanLemmas.{recent-stands, old-falls, none-stands, other-falls, refused-falls, unchanged-stands, changed-falls, lost-falls}
use Rattle.bay_device_example_laws.proofs.laws.a_scan_is_valid_until_something_changes.Goals as goal

pub returns-clause-recent : goal.returns-clause-recent
returns-clause-recent l = recent-stands

pub returns-clause-old : goal.returns-clause-old
returns-clause-old l = old-falls

pub returns-clause-missing : goal.returns-clause-missing
returns-clause-missing l = none-stands

pub returns-clause-other : goal.returns-clause-other
returns-clause-other l = other-falls

pub returns-clause-refused : goal.returns-clause-refused
returns-clause-refused l = refused-falls

pub returns-clause-unchanged : goal.returns-clause-unchanged
returns-clause-unchanged l = unchanged-stands

pub returns-clause-changed : goal.returns-clause-changed
returns-clause-changed l = changed-falls

pub returns-clause-lost : goal.returns-clause-lost
returns-clause-lost l = lost-falls
