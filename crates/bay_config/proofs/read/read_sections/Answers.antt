use Rattle.std.proofs.Common.{rules}
use Rattle.toml.specs.View.{table_view}
use Rattle.bay_config.proofs.BayLemmas.{sections-by-section}
use Rattle.bay_config.proofs.read.read_sections.Goals as goal

pub returns-in_err-switches : goal.returns-in_err-switches
returns-in_err-switches c = rw (sections-by-section (table_view c.args.file.now)) (search rules)

pub returns-in_err-inputs : goal.returns-in_err-inputs
returns-in_err-inputs c = rw (sections-by-section (table_view c.args.file.now)) (search rules)

pub returns-in_err-meters : goal.returns-in_err-meters
returns-in_err-meters c = rw (sections-by-section (table_view c.args.file.now)) (search rules)

pub returns : goal.returns
returns c = rw (sections-by-section (table_view c.args.file.now)) (search rules)
