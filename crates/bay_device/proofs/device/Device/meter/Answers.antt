use Rattle.std.proofs.Common.{ap, ◌∙◌}
use Rattle.bay_device.specs.Device.{State}
use Rattle.bay_device.specs.LookUps.{meter_place}
use Rattle.bay_device.proofs.device.Device.meter.Goals as goal

pub returns : goal.returns
returns c =
    (rw c.deref.ensures at c.meter_place.ensures c.self.inside.connections.value)
    ∙ ap (λ (s : State). meter_place s c.args.id.now) c.self.view_is
