use Rattle.std.proofs.Common.{◌≡◌, None, List, [], length, map, subst, ap, sym, ◌∙◌, arith}
use Rattle.bay_config.specs.declared.bay.Bay.{Bay}
use Rattle.bay_control.specs.Decisions as control
use Rattle.bay_nodes.specs.declared.meter.Meter.{Meter}
use Rattle.bay_nodes.specs.declared.switch.Switch.{Switch}
use Rattle.bay_process.proofs.NodeLemmas.{has-switches, have-meters, have-selected}
use Rattle.bay_process.specs.Controls.{HaveSelected}
use Rattle.bay_process.specs.Layout.{Layout, layout_of, meters_of, switches_of}
use Rattle.bay_process.specs.declared.switch.BoundSwitch.{BoundSwitch}
use Rattle.bay_mms_services.specs.Bay.{rows_with_selection}
use Rattle.bay_mms_services.specs.Bay as services
use Rattle.bay_mms_services.specs.RowParts.{AreBoundByName}
use Rattle.bay_mms_services.specs.Released.{HaveTravelTime}
use Rattle.bay_tree.specs.declared.row.Row.{Row}
use Rattle.bay_mms_services.proofs.ShownLemmas.{shows-first}
use Rattle.bay_device.proofs.LoadLemmas.{bound-to}
use Rattle.bay_device.proofs.ScanLemmas.{interlocked}
use Rattle.bay_device.proofs.initial.bind_bay.Goals as goal

pub bind_rows-requires-clause-switches_there : goal.bind_rows-requires-clause-switches_there
bind_rows-requires-clause-switches_there c =
    rw (c.take_items-rows.ensures.value, c.deref_mut.ensures.value)
    (has-switches c.args.bay.value c.in_ok-nodes.nodes.switches.items c.requires.sound
    (rw c.deref.ensures at c.in_ok-nodes.ensures.switches_named))

pub bind_rows-requires-clause-meters_there : goal.bind_rows-requires-clause-meters_there
bind_rows-requires-clause-meters_there c =
    rw (c.take_items-rows.ensures.value, c.deref_mut.ensures.value)
    (have-meters c.args.bay.value c.in_ok-nodes.nodes.meters.items c.requires.sound
    (rw c.deref.ensures at c.in_ok-nodes.ensures.meters_named))

pub bind_model-requires : goal.bind_model-requires
bind_model-requires c =
    let bay : Bay = c.args.bay.value in
    let named = rw c.deref.ensures at c.in_ok-nodes.ensures.switches_named in
    let sized = rw c.deref.ensures at c.in_ok-nodes.ensures.switches_sized in
    let did = c.in_ok-bound.ensures in
    let tree : c.in_ok-bound.bound.tree ≡ bay.rows =
    did.tree ∙ rw c.deref_mut.ensures.value at c.take_items-rows.ensures.value in (
      bay,
      record {
        sound = c.requires.sound;
        profile_is = sym (ap (λ (b : Bay). b.profile) c.deref-4.ensures
            ∙ ap (λ (b : Bay). b.profile) c.deref_mut-2.ensures.value
            ∙ ap (λ (b : Bay). b.profile) c.deref_mut.ensures.value);
        rows_are = sym tree;
        nodes_sized = rw c.as_slice-2.ensures.value sized;
        nodes_named = rw c.as_slice-2.ensures.value named;
        inputs_are = sym (rw (
          c.deref-5.ensures,
          c.deref_mut-2.ensures.value,
          c.deref_mut.ensures.value,
        ) at c.as_slice-3.ensures);
        controls_are = rw c.deref-2.ensures at c.new-control_table.ensures;
      },
    )

pub control_rows_of_tree-requires : goal.control_rows_of_tree-requires
control_rows_of_tree-requires c =
    let bay : Bay = c.args.bay.value in
    let did = c.in_ok-bound.ensures in
    let nodes = c.in_ok-nodes.nodes.switches.items in
    let named = rw c.deref.ensures at c.in_ok-nodes.ensures.switches_named in
    let sized = rw c.deref.ensures at c.in_ok-nodes.ensures.switches_sized in
    let taken =
    rw (c.deref_mut-2.ensures.value, c.deref_mut.ensures.value) at
    c.take_items-switches.ensures.value in
    let f =
    bound-to bay nodes (layout_of c.in_ok-bound.bound.tree) c.args.writes.now _
    c.in_ok-bound.bound.switches.items named sized taken did.of_switches in
    let count : c.len.result ≡ length nodes = omega (arith, c.len.ensures, f.sized, sized) in
    let tree : c.in_ok-bound.bound.tree ≡ bay.rows =
    did.tree ∙ rw c.deref_mut.ensures.value at c.take_items-rows.ensures.value in
    subst (λ (t : List Row). HaveSelected t c.len.result) (sym tree)
    (subst (λ n. HaveSelected bay.rows n) (sym count)
    (have-selected bay nodes c.requires.sound named))

pub store_releases-requires : goal.store_releases-requires
store_releases-requires c =
    let bay : Bay = c.args.bay.value in
    let named = rw c.deref.ensures at c.in_ok-nodes.ensures.switches_named in
    let sized = rw c.deref.ensures at c.in_ok-nodes.ensures.switches_sized in
    let taken =
    rw (c.deref_mut-2.ensures.value, c.deref_mut.ensures.value) at
    c.take_items-switches.ensures.value in
    let layout : Layout = layout_of c.in_ok-bound.bound.tree in
    let f =
    bound-to bay c.in_ok-nodes.nodes.switches.items layout c.args.writes.now _
    c.in_ok-bound.bound.switches.items named sized taken c.in_ok-bound.ensures.of_switches in
    rw (c.in_ok-control_rows.ensures.layout, c.as_slice-4.ensures.value)
    (interlocked layout c.args.writes.now c.in_ok-bound.bound.switches.items f.placed)

pub invariant_of-result : goal.invariant_of-result
invariant_of-result c =
    let bay : Bay = c.args.bay.value in
    let named = rw c.deref.ensures at c.in_ok-nodes.ensures.switches_named in
    let sized = rw c.deref.ensures at c.in_ok-nodes.ensures.switches_sized in
    let taken =
    rw (c.deref_mut-2.ensures.value, c.deref_mut.ensures.value) at
    c.take_items-switches.ensures.value in
    let layout : Layout = layout_of c.in_ok-bound.bound.tree in
    let f =
    bound-to bay c.in_ok-nodes.nodes.switches.items layout c.args.writes.now _
    c.in_ok-bound.bound.switches.items named sized taken c.in_ok-bound.ensures.of_switches in
    let placed : AreBoundByName layout c.in_ok-bound.bound.switches.items =
    λ k b h. record { named = (f.placed k b h).named; leaf_typed = (f.placed k b h).leaf_typed } in
    let count : length (switches_of c.new.result) ≡ c.len.result = omega (
      arith,
      c.len.ensures,
      c.in_ok-bound.bound.switches.ok,
      f.sized,
      ap (λ (bs : List BoundSwitch). length (switches_of bs)) c.new.ensures ∙ ap length f.switches,
    ) in
    record {
      listed = c.in_ok-names.ensures;
      placed =
          subst (λ (l : Layout). AreBoundByName l c.new.result)
          (sym c.in_ok-control_rows.ensures.layout)
          (subst (AreBoundByName layout) (sym c.new.ensures) placed);
      controlled = c.in_ok-control_rows.ensures.named;
      sized = c.in_ok-control_rows.ensures.sized ∙ sym count;
      quiet = shows-first c.len.result _ c.in_ok-bound.bound.tree _ count
          c.in_ok-control_rows.ensures.rows;
      timed = subst HaveTravelTime (sym (rw c.deref-2.ensures at c.new-control_table.ensures))
          c.requires.timed;
    }

pub returns : goal.returns
returns c =
    let bay : Bay = c.args.bay.value in
    let did = c.in_ok-bound.ensures in
    let named = rw c.deref.ensures at c.in_ok-nodes.ensures.switches_named in
    let sized = rw c.deref.ensures at c.in_ok-nodes.ensures.switches_sized in
    let taken =
    rw (c.deref_mut-2.ensures.value, c.deref_mut.ensures.value) at
    c.take_items-switches.ensures.value in
    let f =
    bound-to bay c.in_ok-nodes.nodes.switches.items (layout_of c.in_ok-bound.bound.tree)
    c.args.writes.now _ c.in_ok-bound.bound.switches.items named sized taken did.of_switches in
    let count : c.len.result ≡ length bay.switches =
    omega (arith, c.len.ensures, c.in_ok-bound.bound.switches.ok, f.sized) in
    let tree : c.in_ok-bound.bound.tree ≡ bay.rows =
    did.tree ∙ rw c.deref_mut.ensures.value at c.take_items-rows.ensures.value in
    let profile =
    ap (λ (b : Bay). b.profile) c.deref-4.ensures
    ∙ ap (λ (b : Bay). b.profile) c.deref_mut-2.ensures.value
    ∙ ap (λ (b : Bay). b.profile) c.deref_mut.ensures.value in
    let shows : c.control_rows_of_tree.new.tree
    ≡ rows_with_selection None (length bay.switches) bay.rows =
    c.in_ok-control_rows.ensures.rows
    ∙ ap (λ n. rows_with_selection None n c.in_ok-bound.bound.tree) count
    ∙ ap (rows_with_selection None (length bay.switches)) tree in
    let seen : Bay → services.Bay =
    λ b. record {
      domain = b.domain;
      vendor = b.vendor;
      model = b.model;
      revision = b.revision;
      switches = switches_of c.new.result;
      rows = c.control_rows_of_tree.new.tree;
      inputs = [];
      controls = control.state_of c.new-control_table.result c.new-2.result;
    } in
    record {
      served =
          ap seen c.into_inner-domain.ensures ∙ ap seen c.deref_mut-2.ensures.value
          ∙ ap seen c.deref_mut.ensures.value
          ∙ ap (λ (ss : List Switch). let b : services.Bay = record (seen bay) { switches = ss } in
          b) (ap switches_of c.new.ensures ∙ f.switches)
          ∙ ap (λ (rs : List Row). let b : services.Bay =
          record (seen bay) { switches = bay.switches; rows = rs } in b) shows
          ∙ ap (λ (cs : control.State). let b : services.Bay = record (seen bay) {
            switches = bay.switches;
            rows = rows_with_selection None (length bay.switches) bay.rows;
            controls = cs;
          } in b) (ap (control.state_of c.new-control_table.result) c.new-2.ensures
          ∙ ap control.initial (rw c.deref-2.ensures at c.new-control_table.ensures));
      age = ap (λ (b : Bay). b.scan_max_age_ms) c.into_inner-domain.ensures
          ∙ ap (λ (b : Bay). b.scan_max_age_ms) c.deref_mut-2.ensures.value
          ∙ ap (λ (b : Bay). b.scan_max_age_ms) c.deref_mut.ensures.value;
      inputs = ap (λ (b : Bay). b.inputs) c.into_inner-domain.ensures
          ∙ ap (λ (b : Bay). b.inputs) c.deref_mut-2.ensures.value
          ∙ ap (λ (b : Bay). b.inputs) c.deref_mut.ensures.value;
      ids = ap meters_of c.new-3.ensures ∙ did.ids
          ∙ ap (map (λ (m : Meter). m.id))
          (rw (c.deref-3.ensures, c.deref_mut-2.ensures.value, c.deref_mut.ensures.value) at
          c.as_slice.ensures);
      bound = rw (c.in_ok-control_rows.ensures.layout, c.new.ensures) f.placed;
      metered = rw (c.in_ok-control_rows.ensures.layout, c.new-3.ensures) did.of_meters;
      profile = c.in_ok-model_rows.ensures.profile ∙ profile;
      modelled = rw c.in_ok-control_rows.ensures.layout
          (c.in_ok-model_rows.ensures.bound bay (record {
            sound = c.requires.sound;
            profile_is = sym profile;
            rows_are = sym tree;
            nodes_sized = rw c.as_slice-2.ensures.value sized;
            nodes_named = rw c.as_slice-2.ensures.value named;
            inputs_are = sym (rw (
              c.deref-5.ensures,
              c.deref_mut-2.ensures.value,
              c.deref_mut.ensures.value,
            ) at c.as_slice-3.ensures);
            controls_are = rw c.deref-2.ensures at c.new-control_table.ensures;
          }));
      released = rw c.new.ensures (rw c.as_slice-4.ensures.value at c.in_ok-releases.ensures);
    }
