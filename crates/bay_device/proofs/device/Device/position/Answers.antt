use Rattle.std.proofs.Common.{ap, ◌∙◌}
use Rattle.bay_device.specs.Device.{State}
use Rattle.bay_device.specs.LookUps.{position_of}
use Rattle.bay_device.proofs.device.Device.position.Goals as goal

pub returns : goal.returns
returns c =
    (rw c.deref.ensures at c.position.ensures c.self.inside.connections.value)
    ∙ ap (λ (s : State). position_of s c.args.switch) c.self.view_is
