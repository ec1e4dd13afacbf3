use Rattle.std.proofs.Common.{◌≡◌, Some, ◌∙◌, ap, rules}
use Rattle.toml.specs.View.{table_view}
use Rattle.bay_base.specs.declared.switch.Control.TheVariants.{Status, Direct}
use Rattle.bay_config.specs.Switch.{control_of}
use Rattle.bay_config.proofs.SwitchLemmas.{no-sbo-timeout, no-times}
use Rattle.bay_config.proofs.switches.read_times.Goals as goal

pub returns-in-Status : goal.returns-in-Status
returns-in-Status c =
    let t = table_view c.args.table.now in
    let readable : control_of t ≡ Some Status = c.requires.readable ∙ ap Some c.in-Status.is in
    let none = no-times t readable c.requires.known in
    rw (c.in-Status.is, none.0, none.1)

pub returns-in_ok-travel_ms-in-Direct : goal.returns-in_ok-travel_ms-in-Direct
returns-in_ok-travel_ms-in-Direct c =
    let t = table_view c.args.table.now in
    let readable : control_of t ≡ Some Direct = c.requires.readable ∙ ap Some c.in-Direct.is in
    let none = no-sbo-timeout t readable c.requires.known in
    rw (c.in-Direct.is, none) (search rules)
