use Rattle.std.proofs.Common.{◌≡◌, ◌∙◌, Some, ap}
use Rattle.toml.specs.View.{table_view}
use Rattle.bay_base.specs.declared.switch.Control.TheVariants.{Status}
use Rattle.bay_config.specs.Switch.{control_of}
use Rattle.bay_config.proofs.SwitchLemmas.{no-options}
use Rattle.bay_config.proofs.switches.read_options.Goals as goal

pub returns-in-Status : goal.returns-in-Status
returns-in-Status c =
    let t = table_view c.args.table.now in
    let readable : control_of t ≡ Some Status = c.requires.control ∙ ap Some c.in-Status.is in
    let none = no-options t readable c.requires.known in
    rw (c.in-Status.is, none.0, none.1)
