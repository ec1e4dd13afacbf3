use Rattle.std.proofs.Common.{ap, ◌∙◌}
use Rattle.bay_device.specs.Device.{State}
use Rattle.bay_device.specs.LookUps.{input_index}
use Rattle.bay_device.proofs.device.Device.input.Goals as goal

pub returns : goal.returns
returns c =
    (rw c.deref.ensures at c.input_index.ensures c.self.inside.connections.value)
    ∙ ap (λ (s : State). input_index s c.args.name.now) c.self.view_is
