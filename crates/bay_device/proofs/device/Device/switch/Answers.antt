use Rattle.std.proofs.Common.{ap, ◌∙◌}
use Rattle.bay_device.specs.Device.{State}
use Rattle.bay_device.specs.LookUps.{switch_index}
use Rattle.bay_device.proofs.device.Device.switch.Goals as goal

pub returns : goal.returns
returns c =
    (rw c.deref.ensures at c.switch.ensures c.self.inside.connections.value)
    ∙ ap (λ (s : State). switch_index s c.args.id.now) c.self.view_is
