use Rattle.std.proofs.Common.{◌++◌, codes, ap, ◌∙◌}
use Rattle.bay_device.specs.Device.{State}
use Rattle.bay_device.specs.LookUps.{switches_text}
use Rattle.bay_device.specs.StateView.{state_view}
use Rattle.bay_device.specs.declared.state.DeviceState.{DeviceState}
use Rattle.bay_device.proofs.ReleaseLemmas.{kept-text}
use Rattle.bay_device.proofs.device.Device.releases.Goals as goal

pub returns : goal.returns
returns c =
    let d : DeviceState = c.self.inside.state.value in
    c.as_slice.ensures.value ∙ ap (λ (e : DeviceState). e.releases.text.items) c.deref.ensures
    ∙ kept-text (state_view c.self.inside.connections.value d) d.releases d.released
    ∙ ap (λ (s : State). switches_text s 0 s.switches ++ codes "\n") c.self.view_is
