use Rattle.std.proofs.Common.{rules}
use Rattle.toml.specs.View.{table_view}
use Rattle.bay_config.proofs.MeterLemmas.{meter-by-keys}
use Rattle.bay_config.proofs.meters.read_meter.Goals as goal

pub returns-in_err-check_keys : goal.returns-in_err-check_keys
returns-in_err-check_keys c =
    rw (meter-by-keys c.args.profile (table_view c.args.table.now)) (search rules)

pub returns-in_err-id : goal.returns-in_err-id
returns-in_err-id c =
    rw (meter-by-keys c.args.profile (table_view c.args.table.now)) (search rules)

pub returns-in_err-scale : goal.returns-in_err-scale
returns-in_err-scale c =
    rw (meter-by-keys c.args.profile (table_view c.args.table.now)) (search rules)

pub returns : goal.returns
returns c = rw (meter-by-keys c.args.profile (table_view c.args.table.now)) (search rules)
