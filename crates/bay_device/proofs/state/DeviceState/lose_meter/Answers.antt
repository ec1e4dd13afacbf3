use Rattle.std.proofs.Common.{ap, ◌∙◌}
use Rattle.bay_base.specs.declared.point.MeterField.TheVariants.{TotVAr, Hz, PhaseA, PhaseB, PhaseC}
use Rattle.bay_device.specs.Device.{device_after_bad_measure}
use Rattle.bay_device.proofs.state.DeviceState.lose_meter.Goals as goal

pub returns-clause-after : goal.returns-clause-after
returns-clause-after c connections =
    let then = device_after_bad_measure c.args.now c.args.meter in
    c.invalidate_field-6.ensures.after connections
    ∙ ap (then PhaseC) (c.invalidate_field-5.ensures.after connections
    ∙ ap (then PhaseB) (c.invalidate_field-4.ensures.after connections
    ∙ ap (then PhaseA) (c.invalidate_field-3.ensures.after connections
    ∙ ap (then Hz) (c.invalidate_field-2.ensures.after connections
    ∙ ap (then TotVAr) (c.invalidate_field.ensures.after connections)))))
