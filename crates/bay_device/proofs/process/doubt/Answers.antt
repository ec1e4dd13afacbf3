use Rattle.std.proofs.Common.{◌≡◌, ap, sym, ◌∙◌, length, not}
use Rattle.bay_nodes.specs.Names.{StatusNames, meter_names}
use Rattle.bay_process.specs.Layout.{layout_of, status_names_in, switches_of}
use Rattle.bay_process.specs.Names.{field_names}
use Rattle.bay_process.specs.Values.{rows_after_bad_measure, has_invalid_measure}
use Rattle.bay_process.specs.declared.meter.MeasureRows.{MeasureRows}
use Rattle.bay_process.proofs.FieldLemmas.{field-leaf_typed, field-named}
use Rattle.bay_mms_services.specs.Views.{bay_view}
use Rattle.bay_mms_services.proofs.PlaceLemmas.{names-kept, rows-kept}
use Rattle.bay_device.proofs.ApartLemmas.{shows-doubt}
use Rattle.bay_device.proofs.process.doubt.Goals as goal

pub apply_bad_measure-requires : goal.apply_bad_measure-requires
apply_bad_measure-requires c =
    rw c.field.ensures (field-leaf_typed (layout_of c.args.bay.now.tree) c.args.rows c.args.field
    c.requires.leaf_typed)

pub invariant_of-bay : goal.invariant_of-bay
invariant_of-bay c =
    let d = c.args.bay.now in
    let f = c.args.field in
    let named =
    ap (λ (r : MeasureRows). status_names_in (layout_of d.tree) r.status) c.field.ensures
    ∙ field-named (layout_of d.tree) c.args.rows f ∙ ap (field_names f) c.requires.named in
    let did = c.apply_bad_measure.ensures in
    let written : c.apply_bad_measure.new.tree
    ≡ rows_after_bad_measure (field_names f (meter_names c.args._meter)) c.args.now d.tree =
    did.rows ∙ ap (λ (n : StatusNames). rows_after_bad_measure n c.args.now d.tree) named in
    record {
      listed = names-kept _ d.tree d.names (sym did.layout) d.listed;
      placed = rw did.layout d.placed;
      controlled = rows-kept _ d.tree d.control_rows (sym did.layout) d.controlled;
      sized = d.sized;
      timed = d.timed;
      quiet = rw written (shows-doubt (length (switches_of d.switches)) c.args._meter f c.args.now
          d.tree d.quiet);
    }

pub returns-clause-changed : goal.returns-clause-changed
returns-clause-changed c =
    let d = c.args.bay.now in
    let f = c.args.field in
    let named =
    ap (λ (r : MeasureRows). status_names_in (layout_of d.tree) r.status) c.field.ensures
    ∙ field-named (layout_of d.tree) c.args.rows f ∙ ap (field_names f) c.requires.named in
    c.apply_bad_measure.ensures.changed
    ∙ ap (λ (n : StatusNames). not (has_invalid_measure n d.tree)) named

pub returns-clause-after : goal.returns-clause-after
returns-clause-after c =
    let d = c.args.bay.now in
    let f = c.args.field in
    let named =
    ap (λ (r : MeasureRows). status_names_in (layout_of d.tree) r.status) c.field.ensures
    ∙ field-named (layout_of d.tree) c.args.rows f ∙ ap (field_names f) c.requires.named in
    ap (λ rs. record (bay_view d) { rows = rs })
    (c.apply_bad_measure.ensures.rows
    ∙ ap (λ (n : StatusNames). rows_after_bad_measure n c.args.now d.tree) named)
