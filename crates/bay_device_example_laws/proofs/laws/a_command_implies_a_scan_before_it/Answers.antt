use Rattle.bay_device_example_laws.proofs.FreshLemmas.{says-scan, says-nothing, says-nothing-refused, not-loaded}
use Rattle.bay_device_example_laws.proofs.laws.a_command_implies_a_scan_before_it.Goals as goal

pub returns-clause-says : goal.returns-clause-says
returns-clause-says l = says-scan

pub returns-clause-silent : goal.returns-clause-silent
returns-clause-silent l = says-nothing

pub returns-clause-refused : goal.returns-clause-refused
returns-clause-refused l = says-nothing-refused

pub returns-clause-loaded : goal.returns-clause-loaded
returns-clause-loaded l = not-loaded
