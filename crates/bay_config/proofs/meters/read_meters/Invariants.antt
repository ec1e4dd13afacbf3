use Rattle.std.proofs.Common.{◌≡◌, drop}
use Rattle.toml.specs.View.{items_view}
use Rattle.bay_config.specs.Section.{tables_of}
use Rattle.bay_config.proofs.ListLemmas.{after, read_all}
use Rattle.bay_config.proofs.EntryLemmas.{entry_check}
use Rattle.bay_config.specs.Bay.{meter_in, meter_keys}
use Rattle.bay_config.proofs.meters.read_meters.Given as goal

abbrev pub invariant-loop-i : goal.invariant-loop-i
invariant-loop-i l =
    read_all (entry_check (meter_keys l.profile)) (meter_in l.profile)
    (tables_of (items_view l.values))
    ≡ after l.meters.items (read_all (entry_check (meter_keys l.profile)) (meter_in l.profile)
    (tables_of (items_view (drop l.i l.values))))
