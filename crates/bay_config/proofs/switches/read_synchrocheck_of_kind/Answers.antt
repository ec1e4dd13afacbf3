use Rattle.std.proofs.Common.{◌≡◌, ◌∙◌, Some, ap, inl, inr}
use Rattle.toml.specs.View.{table_view}
use Rattle.bay_base.specs.declared.switch.SwitchKind.TheVariants.{Disconnector, Earthing}
use Rattle.bay_config.specs.Switch.{kind_of}
use Rattle.bay_config.proofs.SwitchLemmas.{no-refusal}
use Rattle.bay_config.proofs.switches.read_synchrocheck_of_kind.Goals as goal

pub returns-in-Disconnector : goal.returns-in-Disconnector
returns-in-Disconnector c =
    let t = table_view c.args.table.now in
    let of : kind_of t ≡ Some Disconnector = c.requires.readable ∙ ap Some c.in-Disconnector.is in
    let none = no-refusal t (inl of) c.requires.known in
    rw (c.in-Disconnector.is, none)

pub returns-in-Earthing : goal.returns-in-Earthing
returns-in-Earthing c =
    let t = table_view c.args.table.now in
    let of : kind_of t ≡ Some Earthing = c.requires.readable ∙ ap Some c.in-Earthing.is in
    let none = no-refusal t (inr of) c.requires.known in
    rw (c.in-Earthing.is, none)
