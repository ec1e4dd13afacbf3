use Rattle.std.proofs.Common.{ℕ, true, List, ap, ◌∙◌}
use Rattle.bay_device.specs.Device.{State, device_at, inputs_lost, measures_lost, positions_lost, with_health}
use Rattle.bay_device.specs.StateView.{state_view}
use Rattle.bay_device.proofs.LostLemmas.{Fixed, positions-fixed}
use Rattle.bay_device.proofs.state.DeviceState.lose_process.Goals as goal

abbrev ending : ℕ → List (List ℕ) → State → State
ending now ids s = record (measures_lost now 0 ids s) { is_lost = true }

abbrev lost : ℕ → State → State
lost now s = positions_lost now 0 s.switches s

pub returns-clause-after : goal.returns-clause-after
returns-clause-after c connections =
    let now = c.args.now in
    let a : State = device_at now (state_view connections c.args.self.now) in
    c.report_health.ensures.after connections
    ∙ ap (with_health now) (ap (λ (s : State). let u : State = record s { is_lost = true } in u)
    (c.lose_meters.ensures connections)
    ∙ ap (λ (u : State). ending now u.meters u) (c.lose_inputs.ensures.after connections
    ∙ ap (inputs_lost now) (c.lose_positions.ensures connections
    ∙ ap (lost now) (c.advance-over.ensures.after connections)))
    ∙ ap (λ ids. ending now ids (inputs_lost now (lost now a)))
    (ap (λ (f : Fixed). f.meters) (positions-fixed now a 0 a.switches)))
