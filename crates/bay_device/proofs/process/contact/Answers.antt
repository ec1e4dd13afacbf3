use Rattle.std.proofs.Common.{◌≡◌, ap, sym, ◌∙◌, get_or, length, not}
use Rattle.bay_nodes.specs.Names.{SwitchNames, switch_names}
use Rattle.bay_process.specs.Layout.{layout_of, switches_of}
use Rattle.bay_process.specs.Values.{rows_after_contact, has_position}
use Rattle.bay_mms_services.specs.Views.{bay_view}
use Rattle.bay_mms_services.proofs.ViewLemmas.{there}
use Rattle.bay_mms_services.proofs.PlaceLemmas.{names-kept, rows-kept}
use Rattle.bay_device.proofs.ApartLemmas.{shows-contact}
use Rattle.bay_device.proofs.ProcessLemmas.{named-there}
use Rattle.bay_device.proofs.process.contact.Goals as goal

pub apply_position-requires : goal.apply_position-requires
apply_position-requires c =
    let d = c.args.bay.now in
    let bound = get_or c.as_slice.result.now c.args.switch c.index-as_slice-switch.result in
    (d.placed c.args.switch bound
    (there d.switches _ c.args.switch _ c.as_slice.ensures c.requires)).leaf_typed

pub invariant_of-bay : goal.invariant_of-bay
invariant_of-bay c =
    let d = c.args.bay.now in
    let k = c.args.switch in
    let bound = get_or c.as_slice.result.now c.args.switch c.index-as_slice-switch.result in
    let here = there d.switches _ k _ c.as_slice.ensures c.requires in
    let did = c.apply_position.ensures in
    let written : c.apply_position.new.tree
    ≡ rows_after_contact (switch_names (switches_of d.switches) k bound.switch) c.args.position
    c.args.now d.tree =
    did.rows ∙ ap (λ (n : SwitchNames). rows_after_contact n c.args.position c.args.now d.tree)
    (d.placed k bound here).named in
    record {
      listed = names-kept _ d.tree d.names (sym did.layout) d.listed;
      placed = rw did.layout d.placed;
      controlled = rows-kept _ d.tree d.control_rows (sym did.layout) d.controlled;
      sized = d.sized;
      timed = d.timed;
      quiet = rw written (shows-contact (length (switches_of d.switches))
          (switches_of d.switches) k bound.switch c.args.position c.args.now d.tree d.quiet);
    }

pub returns-clause-changed : goal.returns-clause-changed
returns-clause-changed c s is =
    let d = c.args.bay.now in
    let bound = get_or c.as_slice.result.now c.args.switch c.index-as_slice-switch.result in
    let here = there d.switches _ c.args.switch _ c.as_slice.ensures c.requires in
    c.apply_position.ensures.changed
    ∙ ap (λ (n : SwitchNames). not (has_position n.position c.args.position d.tree))
    (named-there (layout_of d.tree) d.switches c.args.switch bound s d.placed here is)

pub returns-clause-after : goal.returns-clause-after
returns-clause-after c s is =
    let d = c.args.bay.now in
    let bound = get_or c.as_slice.result.now c.args.switch c.index-as_slice-switch.result in
    let here = there d.switches _ c.args.switch _ c.as_slice.ensures c.requires in
    ap (λ rows. record (bay_view d) { rows = rows })
    (c.apply_position.ensures.rows
    ∙ ap (λ (n : SwitchNames). rows_after_contact n c.args.position c.args.now d.tree)
    (named-there (layout_of d.tree) d.switches c.args.switch bound s d.placed here is))
