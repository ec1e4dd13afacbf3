use Rattle.std.proofs.lemmas.List.{length-map}
use Rattle.std.proofs.Common.{◌≡◌, None, false, List, length, map, refl, replicate, subst, ap, sym, ◌∙◌, arith}
use Rattle.bay_config.specs.declared.bay.Bay.{Bay}
use Rattle.bay_base.specs.declared.point.Point.{Point}
use Rattle.bay_base.specs.declared.point.Source.{Source}
use Rattle.bay_process.specs.Layout.{AreBound, layout_of, meters_of}
use Rattle.bay_process.specs.ModelRows.{profile_with}
use Rattle.bay_process.specs.Scans.{AreSpanned}
use Rattle.bay_process.specs.Sources.{sources_of, type_of_source}
use Rattle.bay_process.specs.declared.switch.BoundSwitch.{BoundSwitch}
use Rattle.il_scan.specs.declared.span.Span.{Span}
use Rattle.bay_device.proofs.HeldLemmas.{all-noted}
use Rattle.bay_process.proofs.SourceLemmas.{IsTyped, bay-typed, points-fit, reads-typed}
use Rattle.bay_mms_services.specs.Bay.{Bay as Served}
use Rattle.bay_mms_services.specs.Views.{bay_view}
use Rattle.il_image.specs.Images.{Each}
use Rattle.il_scan.specs.Scans.{MachineData, read_only, type_of_point}
use Rattle.bay_device.specs.StateView.{state_view}
use Rattle.bay_device.specs.declared.state.DeviceState.{DeviceState}
use Rattle.bay_device.proofs.LoadLemmas.{loaded-view}
use Rattle.bay_device.proofs.initial.make_state.Goals as goal

pub invariant_of-new : goal.invariant_of-new
invariant_of-new c =
    let bay : Bay = c.args.bay.value in
    let wired = c.in_ok-wired.ensures in
    let did = c.in_ok-bound.ensures in
    let points : c.as_slice.result.now ≡ bay.points =
    c.as_slice.ensures ∙ ap (λ (b : Bay). b.points) c.deref.ensures in
    let read : c.new.result ≡ sources_of false bay.points c.args.verified.points =
    c.new.ensures ∙ rw points at wired.reads in
    let values =
    c.in_ok-input_values.ensures ∙ ap (λ ns. map (λ _. false) ns)
    (c.as_slice-2.ensures ∙ ap (λ (b : Bay). b.inputs) c.deref-2.ensures) in
    let typed =
    reads-typed bay.points (subst (λ (ps : List Point). Each IsTyped ps)
    (sym c.requires.bay.sound.points) (bay-typed bay.switches bay.inputs bay.meters))
    c.args.verified.points (points-fit bay.points c.args.verified c.requires.verified.fits) in
    let many : length c.new-3.result ≡ length c.in_ok-spans.spans.items =
    ap (λ (ss : List Span). length ss) c.new-3.ensures in
    let as_many : length c.new.result ≡ length c.in_ok-wired.wired.reads.items =
    ap (λ (rs : List Source). length rs) c.new.ensures in
    record {
      bound = subst (λ (ws : List Source). AreBound (layout_of c.in_ok-bound.bound.bay.tree) ws
          c.in_ok-bound.bound.bay.switches) (c.as_slice-3.ensures.value ∙ sym c.new-2.ensures)
          did.bound;
      metered = did.metered;
      valued = ap length values ∙ length-map bay.inputs (λ _. false)
          ∙ sym (ap length did.inputs);
      modelled = rw (did.inputs, ap (λ (b : Served). b.switches) did.served) did.modelled;
      released = did.released;
      tabled =
          rw (c.as_slice-4.ensures, c.as_slice-5.ensures, c.as_slice-6.ensures) at
          c.build_tables-tables.ensures;
      typed = ap (map type_of_source) read ∙ typed
          ∙ sym (ap (λ (h : MachineData). map type_of_point (read_only h.image.points))
          wired.machine);
      spans_sized = many ∙ c.in_ok-spans.ensures.sized
          ∙ ap (λ (bs : List BoundSwitch). length bs) c.as_slice-count.ensures;
      few = omega (arith, many, c.in_ok-spans.spans.small);
      spanned = subst (λ (ss : List Span). AreSpanned c.new.result ss) (sym c.new-3.ensures)
          (subst (λ (rs : List Source). AreSpanned rs c.in_ok-spans.spans.items)
          (c.as_slice-7.ensures.value ∙ sym c.new.ensures) c.in_ok-spans.ensures.spanned);
      held = all-noted (record { from = 0; to = c.len.result }) _ c.new.result _ refl
          (omega (arith, c.len.ensures, as_many));
    }

pub returns : goal.returns
returns c =
    let bay : Bay = c.args.bay.value in
    let wired = c.in_ok-wired.ensures in
    let did = c.in_ok-bound.ensures in
    let points : c.as_slice.result.now ≡ bay.points =
    c.as_slice.ensures ∙ ap (λ (b : Bay). b.points) c.deref.ensures in
    ap (λ (d : DeviceState). state_view (replicate 8 None) d) c.in_ok-state.ensures.ok
    ∙ loaded-view bay c.args.verified (bay_view c.in_ok-bound.bound.bay)
    c.in_ok-bound.bound.scan_max_age_ms c.in_ok-bound.bound.inputs
    c.in_ok-input_values.input_values (meters_of c.in_ok-bound.bound.meters)
    (profile_with c.in_ok-bound.bound.model_rows) c.new.result c.new-2.result
    c.in_ok-wired.wired.machine did.served did.age did.inputs
    (c.in_ok-input_values.ensures ∙ ap (λ ns. map (λ _. false) ns)
    (c.as_slice-2.ensures ∙ ap (λ (b : Bay). b.inputs) c.deref-2.ensures))
    did.ids did.profile (c.new.ensures ∙ rw points at wired.reads)
    (c.new-2.ensures ∙ rw points at wired.writes) wired.machine
