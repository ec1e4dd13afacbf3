use Rattle.std.proofs.Common.{Bool, false, ◌||◌, List, Some, get_or, ap, sym, ◌∙◌}
use Rattle.std.proofs.lemmas.Option.{slice_get-get_or}
use Rattle.bay_nodes.specs.Names.{meter_names}
use Rattle.bay_process.specs.Names.{field_names}
use Rattle.bay_process.specs.declared.meter.BoundMeter.{BoundMeter}
use Rattle.bay_process.proofs.KeptLemmas.{kept-stays}
use Rattle.bay_process.proofs.ToldLemmas.{keeps-doubt, field-away}
use Rattle.bay_mms_services.specs.Bay.{Bay}
use Rattle.bay_device.specs.Device.{State, device_after_bad_measure, with_bay}
use Rattle.bay_device.specs.StateView.{state_view}
use Rattle.bay_device.proofs.HeldLemmas.{all-noted}
use Rattle.bay_device.proofs.state.DeviceState.invalidate_field.Goals as goal

pub invariant_of-self : goal.invariant_of-self
invariant_of-self c =
    let d = c.args.self.now in
    let did = c.doubt-changed.ensures in
    let written = ap (λ (b : Bay). b.rows) did.after in
    record {
      bound = rw (did.layout, did.switches) d.bound;
      metered = rw did.layout d.metered;
      valued = d.valued;
      modelled = rw (did.layout, did.switches) d.modelled;
      released = rw (written, did.switches) (kept-stays d.bay.tree _ _ d.releases d.released
          (keeps-doubt (field_names c.args.field (meter_names c.args.meter)) c.args.now
          d.bay.tree (field-away c.args.meter c.args.field)));
      tabled = rw did.switches d.tabled;
      typed = d.typed;
      spans_sized = rw did.switches d.spans_sized;
      few = d.few;
      spanned = d.spanned;
      held = all-noted c.all_points-self.result _ d.reads _ c.all_points-self.ensures.from
          c.all_points-self.ensures.to;
    }

pub returns-clause-after : goal.returns-clause-after
returns-clause-after c connections =
    let t : State = state_view connections c.args.self.now in
    ap (λ (b : Bay). record
    (with_bay b (record t { is_stale = t.is_stale || c.doubt-changed.result; is_lost = false }))
    { input_values = t.input_values }) c.doubt-changed.ensures.after
    ∙ ap (λ (b : Bool). record (device_after_bad_measure c.args.now c.args.meter c.args.field t)
    { is_stale = t.is_stale || b }) c.doubt-changed.ensures.changed

pub doubt-changed-requires : goal.doubt-changed-requires
doubt-changed-requires c =
    let d = c.args.self.now in
    let bound = get_or c.as_slice.result.now c.args.meter c.index-as_slice-meter.result in
    d.metered c.args.meter bound
    (slice_get-get_or d.meters c.args.meter c.index-as_slice-meter.result c.requires
    ∙ ap (λ (ms : List BoundMeter).
    Some (get_or ms c.args.meter c.index-as_slice-meter.result)) (sym c.as_slice.ensures))
