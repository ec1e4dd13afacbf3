use Rattle.std.proofs.Common.{List, Option, ap, sym, subst, ◌∙◌}
use Rattle.bay_device.specs.Entries.{IsIdle}
use Rattle.bay_device.specs.StateView.{state_view}
use Rattle.bay_device.proofs.LoadedLemmas.{initial-idle}
use Rattle.bay_device.proofs.TravelLemmas.{timed-bay}
use Rattle.bay_device.proofs.device.Device.new.Goals as goal

pub make_state-requires-clause-bay : goal.make_state-requires-clause-bay
make_state-requires-clause-bay c =
    let read = c.into_parts-bay.ensures.sound.read in
    rw c.into_parts-bay.ensures.bay (timed-bay read.text _ read.sound read.file)

pub make_state-requires-clause-verified : goal.make_state-requires-clause-verified
make_state-requires-clause-verified c =
    rw (c.into_parts-bay.ensures.bay, c.into_parts-bay.ensures.program)
    c.into_parts-bay.ensures.sound.verified

pub returns-clause-device : goal.returns-clause-device
returns-clause-device c =
    ap (λ cs. state_view cs c.in_ok-state.state.value)
    (c.in_ok-connections.ensures.ok ∙ c.new.ensures)
    ∙ (rw (c.into_parts-bay.ensures.bay, c.into_parts-bay.ensures.program) at
    c.in_ok-state.ensures)

pub returns-clause-idle : goal.returns-clause-idle
returns-clause-idle c =
    subst IsIdle (sym (returns-clause-device c))
    (initial-idle c.args.loaded.bay c.args.loaded.image)
