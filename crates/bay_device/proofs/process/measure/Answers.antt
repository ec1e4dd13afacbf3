use Rattle.std.proofs.Common.{◌≡◌, ap, sym, ◌∙◌, length, not}
use Rattle.std.proofs.lemmas.Int.{to_z-of_z}
use Rattle.bay_nodes.specs.Names.{StatusNames, float_names, meter_names}
use Rattle.bay_process.specs.Layout.{IsFloatHandle, layout_of, status_names_in, switches_of}
use Rattle.bay_process.specs.Names.{field_float, field_names}
use Rattle.bay_process.specs.Values.{rows_after_measure, has_measure}
use Rattle.bay_process.specs.declared.meter.MeasureRows.{MeasureRows}
use Rattle.bay_process.proofs.FieldLemmas.{field-leaf_typed, field-named}
use Rattle.bay_mms_services.specs.Views.{bay_view}
use Rattle.bay_mms_services.proofs.PlaceLemmas.{names-kept, rows-kept}
use Rattle.bay_device.proofs.ApartLemmas.{shows-measure}
use Rattle.bay_device.proofs.process.measure.Goals as goal

pub apply_measure-requires : goal.apply_measure-requires
apply_measure-requires c =
    rw c.field.ensures record {
      status = field-leaf_typed (layout_of c.args.bay.now.tree) c.args.rows c.args.field
          c.requires.leaf_typed;
      float = (c.requires.floats c.args.field).leaf_typed;
    }

pub invariant_of-bay : goal.invariant_of-bay
invariant_of-bay c =
    let d = c.args.bay.now in
    let f = c.args.field in
    let named =
    ap (λ (r : MeasureRows). status_names_in (layout_of d.tree) r.status) c.field.ensures
    ∙ field-named (layout_of d.tree) c.args.rows f ∙ ap (field_names f) c.requires.named in
    let float = field_float f (float_names c.args._meter) in
    let handle : IsFloatHandle (layout_of d.tree) float c.field.result.float =
    rw c.field.ensures (c.requires.floats f) in
    let did = c.apply_measure.ensures in
    let fits = c.ranges.value in
    let rows = simp to_z-of_z at (did.rows float handle) in
    let written : c.apply_measure.new.tree
    ≡ rows_after_measure (field_names f (meter_names c.args._meter)) float c.args.value c.args.now
    d.tree =
    rows
    ∙ ap (λ (n : StatusNames). rows_after_measure n float c.args.value c.args.now d.tree) named in
    record {
      listed = names-kept _ d.tree d.names (sym did.layout) d.listed;
      placed = rw did.layout d.placed;
      controlled = rows-kept _ d.tree d.control_rows (sym did.layout) d.controlled;
      sized = d.sized;
      timed = d.timed;
      quiet = rw written (shows-measure (length (switches_of d.switches)) c.args._meter f
          c.args.value c.args.now d.tree d.quiet);
    }

pub returns-clause-changed : goal.returns-clause-changed
returns-clause-changed c =
    let d = c.args.bay.now in
    let f = c.args.field in
    let named =
    ap (λ (r : MeasureRows). status_names_in (layout_of d.tree) r.status) c.field.ensures
    ∙ field-named (layout_of d.tree) c.args.rows f ∙ ap (field_names f) c.requires.named in
    let fits = c.ranges.value in
    let changed = simp to_z-of_z at c.apply_measure.ensures.changed in
    changed ∙ ap (λ (n : StatusNames). not (has_measure n c.args.value d.tree)) named

pub returns-clause-after : goal.returns-clause-after
returns-clause-after c =
    let d = c.args.bay.now in
    let f = c.args.field in
    let named =
    ap (λ (r : MeasureRows). status_names_in (layout_of d.tree) r.status) c.field.ensures
    ∙ field-named (layout_of d.tree) c.args.rows f ∙ ap (field_names f) c.requires.named in
    let float = field_float f (float_names c.args._meter) in
    let handle : IsFloatHandle (layout_of d.tree) float c.field.result.float =
    rw c.field.ensures (c.requires.floats f) in
    let fits = c.ranges.value in
    let rows = simp to_z-of_z at (c.apply_measure.ensures.rows float handle) in
    ap (λ rs. record (bay_view d) { rows = rs })
    (rows
    ∙ ap (λ (n : StatusNames). rows_after_measure n float c.args.value c.args.now d.tree) named)
