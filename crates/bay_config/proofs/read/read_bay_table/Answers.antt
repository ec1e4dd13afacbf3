use Rattle.std.proofs.Common.{rules}
use Rattle.toml.specs.View.{table_view}
use Rattle.bay_config.proofs.BayLemmas.{by-parts}
use Rattle.bay_config.proofs.LawLemmas.{bay-is-sound}
use Rattle.bay_config.proofs.read.read_bay_table.Goals as goal

pub returns-in_err-sections-clause-read : goal.returns-in_err-sections-clause-read
returns-in_err-sections-clause-read c = rw (by-parts (table_view c.args.file.now)) (search rules)

pub returns-in_err-lists-clause-read : goal.returns-in_err-lists-clause-read
returns-in_err-lists-clause-read c = rw (by-parts (table_view c.args.file.now)) (search rules)

pub returns-clause-read : goal.returns-clause-read
returns-clause-read c =
    rw (by-parts (table_view c.args.file.now), c.bay_with.ensures) (search rules)

pub returns-clause-sound : goal.returns-clause-sound
returns-clause-sound c =
    bay-is-sound (table_view c.args.file.now) _
    (rw (by-parts (table_view c.args.file.now), c.bay_with.ensures) (search rules))
