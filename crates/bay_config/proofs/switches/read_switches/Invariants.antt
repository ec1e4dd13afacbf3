use Rattle.std.proofs.Common.{◌≡◌, drop}
use Rattle.toml.specs.View.{items_view}
use Rattle.bay_config.specs.Section.{tables_of}
use Rattle.bay_config.proofs.ListLemmas.{after, read_all}
use Rattle.bay_config.proofs.SwitchLemmas.{switch_check}
use Rattle.bay_config.specs.Switch.{switch_in}
use Rattle.bay_config.proofs.switches.read_switches.Given as goal

abbrev pub invariant-loop-i : goal.invariant-loop-i
invariant-loop-i l =
    read_all switch_check switch_in (tables_of (items_view l.values))
    ≡ after l.switches.items
    (read_all switch_check switch_in (tables_of (items_view (drop l.i l.values))))
