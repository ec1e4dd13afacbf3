use Rattle.std.proofs.Common.{◌≡◌, drop}
use Rattle.toml.specs.View.{items_view}
use Rattle.bay_config.specs.Section.{tables_of}
use Rattle.bay_config.proofs.ListLemmas.{after, read_all}
use Rattle.bay_config.proofs.EntryLemmas.{entry_check}
use Rattle.bay_config.specs.Bay.{input_in, input_keys}
use Rattle.bay_config.proofs.inputs.read_inputs.Given as goal

abbrev pub invariant-loop-i : goal.invariant-loop-i
invariant-loop-i l =
    read_all (entry_check input_keys) input_in (tables_of (items_view l.values))
    ≡ after l.names.items (read_all (entry_check input_keys) input_in
    (tables_of (items_view (drop l.i l.values))))
