use Rattle.std.proofs.Common.{◌∙◌}
use Rattle.bay_nodes.specs.declared.switch.Switch.{Switch}
use Rattle.bay_base.specs.Names.{same_name}
use Rattle.bay_process.specs.declared.switch.BoundSwitch.{BoundSwitch}
use Rattle.bay_process.proofs.ListLemmas.{position-mapped}
use Rattle.bay_device.proofs.state.DeviceState.switch.Goals as goal

pub returns : goal.returns
returns c connections =
    let place = rw c.as_slice.ensures at c.index_of.ensures in
    place ∙ position-mapped (λ (b : BoundSwitch). b.switch)
    (λ (s : Switch). same_name s.id c.args.id.now) c.args.self.now.bay.switches
