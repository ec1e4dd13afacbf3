use Rattle.std.proofs.Common.{◌∙◌}
use Rattle.bay_base.specs.Names.{same_name}
use Rattle.bay_process.specs.declared.meter.BoundMeter.{BoundMeter}
use Rattle.bay_process.proofs.ListLemmas.{position-mapped}
use Rattle.bay_device.proofs.state.DeviceState.meter_index.Goals as goal

pub returns : goal.returns
returns c connections =
    let place = rw c.as_slice.ensures at c.index_of.ensures in
    place ∙ position-mapped (λ (b : BoundMeter). b.id) (λ m. same_name m c.args.id.now)
    c.args.self.now.meters
