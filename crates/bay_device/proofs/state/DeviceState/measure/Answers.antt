use Rattle.std.proofs.Common.{◌≡◌, Bool, false, ◌||◌, slice_get, Option, Some, Ok, option_map, ap, sym, ◌∙◌}
use Rattle.std.proofs.lemmas.Int.{to_z-of_z}
use Rattle.std.proofs.lemmas.Option.{slice_get-map}
use Rattle.bay_nodes.specs.Names.{float_names, meter_names}
use Rattle.bay_process.specs.Layout.{meters_of}
use Rattle.bay_process.specs.Names.{field_float, field_names}
use Rattle.bay_process.specs.declared.meter.BoundMeter.{BoundMeter}
use Rattle.bay_process.proofs.ListLemmas.{got-some}
use Rattle.bay_process.proofs.KeptLemmas.{kept-stays}
use Rattle.bay_process.proofs.ToldLemmas.{keeps-measure, field-away, float-away}
use Rattle.bay_mms_services.specs.Bay.{Bay}
use Rattle.bay_device.specs.Device.{State, device_after_measure, with_bay, with_health}
use Rattle.bay_device.specs.Outcomes.{Outcome, measure_outcome}
use Rattle.bay_device.specs.StateView.{state_view}
use Rattle.bay_device.specs.Steps.{quiet_answer}
use Rattle.bay_device.specs.declared.event.Sent.{Sent}
use Rattle.bay_device.proofs.HeldLemmas.{all-noted}
use Rattle.bay_device.proofs.state.DeviceState.measure.Goals as goal

pub measure-changed-requires : goal.measure-changed-requires
measure-changed-requires c =
    let d = c.args.self.now in
    let here : slice_get d.meters c.args.meter ≡ Some c.in-Some.bound.now =
    rw c.as_slice.ensures at (got-some _ c.args.meter c.in-Some.bound c.in-Some.ensures.lookup)
    in
    rw c.advance-over.ensures.layout (d.metered c.args.meter c.in-Some.bound.now here)

pub invariant_of-self : goal.invariant_of-self
invariant_of-self c =
    let d = c.advance-over.new.self in
    let did = c.measure-changed.ensures in
    let fits = c.ranges.value in
    let after = simp to_z-of_z at did.after in
    let written = ap (λ (b : Bay). b.rows) after in
    record {
      bound = rw (did.layout, did.switches) d.bound;
      metered = rw did.layout d.metered;
      valued = d.valued;
      modelled = rw (did.layout, did.switches) d.modelled;
      released = rw (written, did.switches) (kept-stays d.bay.tree _ _ d.releases d.released
          (keeps-measure (field_names c.args.field (meter_names c.args.meter))
          (field_float c.args.field (float_names c.args.meter)) c.args.value c.args.now d.bay.tree
          (field-away c.args.meter c.args.field) (float-away c.args.meter c.args.field)));
      tabled = rw did.switches d.tabled;
      typed = d.typed;
      spans_sized = rw did.switches d.spans_sized;
      few = d.few;
      spanned = d.spanned;
      held = all-noted c.all_points-self.result _ d.reads _ c.all_points-self.ensures.from
          c.all_points-self.ensures.to;
    }

pub returns : goal.returns
returns c connections =
    let d = c.args.self.now in
    let s : State = state_view connections d in
    let t : State = state_view connections c.advance-over.new.self in
    let bound = c.in-Some.bound.now in
    let here : slice_get d.meters c.args.meter ≡ Some bound =
    rw c.as_slice.ensures at (got-some _ c.args.meter c.in-Some.bound c.in-Some.ensures.lookup)
    in
    let meter : slice_get (meters_of d.meters) c.args.meter ≡ Some bound.id =
    slice_get-map (λ (b : BoundMeter). b.id) d.meters c.args.meter
    ∙ ap (λ o. option_map (λ (b : BoundMeter). b.id) o) here in
    let after = c.advance-over.ensures.after connections in
    let fits = c.ranges.value in
    let did = simp to_z-of_z at c.measure-changed.ensures.after in
    let changed = simp to_z-of_z at c.measure-changed.ensures.changed in
    let whole = ap (measure_outcome c.args.now c.args.meter c.args.field c.args.value s) meter in
    record {
      answered =
          ap (λ (o : Option Sent). quiet_answer (Ok o)) (c.advance-over.ensures.sent connections)
          ∙ sym (ap (λ (o : Outcome). o.answer) whole);
      left = c.report_health.ensures.after connections
          ∙ ap (with_health c.args.now) (ap (λ (b : Bay). record (with_bay b
          (record t { is_stale = t.is_stale || c.measure-changed.result; is_lost = false }))
          { input_values = t.input_values }) did
          ∙ ap (λ (b : Bool). record
          (device_after_measure c.args.now c.args.meter c.args.field c.args.value t)
          { is_stale = t.is_stale || b }) changed
          ∙ ap (device_after_measure c.args.now c.args.meter c.args.field c.args.value) after)
          ∙ sym (ap (λ (o : Outcome). o.after) whole);
    }
