use Rattle.std.proofs.Common.{rules}
use Rattle.toml.specs.View.{table_view}
use Rattle.bay_config.proofs.NameplateLemmas.{by_keys}
use Rattle.bay_config.proofs.nameplate.read_nameplate_table.Goals as goal

pub returns-in_err-check_keys : goal.returns-in_err-check_keys
returns-in_err-check_keys c = rw (by_keys (table_view c.args.table.now)) (search rules)

pub returns-in_err-domain : goal.returns-in_err-domain
returns-in_err-domain c = rw (by_keys (table_view c.args.table.now)) (search rules)

pub returns-in_err-vendor : goal.returns-in_err-vendor
returns-in_err-vendor c = rw (by_keys (table_view c.args.table.now)) (search rules)

pub returns-in_err-model : goal.returns-in_err-model
returns-in_err-model c = rw (by_keys (table_view c.args.table.now)) (search rules)

pub returns-in_err-revision : goal.returns-in_err-revision
returns-in_err-revision c = rw (by_keys (table_view c.args.table.now)) (search rules)

pub returns-in_err-scan_max_age_ms : goal.returns-in_err-scan_max_age_ms
returns-in_err-scan_max_age_ms c = rw (by_keys (table_view c.args.table.now)) (search rules)

pub returns-in_err-profile : goal.returns-in_err-profile
returns-in_err-profile c = rw (by_keys (table_view c.args.table.now)) (search rules)

pub returns : goal.returns
returns c = rw (by_keys (table_view c.args.table.now)) (search rules)
