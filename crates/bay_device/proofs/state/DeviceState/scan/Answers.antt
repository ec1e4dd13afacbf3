use Rattle.std.proofs.Common.{map, Some, false, refl, ap, sym, ◌∙◌}
use Rattle.il_image.specs.Images.{Image}
use Rattle.il_scan.specs.Scans.{outputs_of, read_only, type_of_point}
use Rattle.bay_mms_services.specs.Bay.{Bay}
use Rattle.bay_device.specs.Device.{RunResult, State, with_bay}
use Rattle.bay_device.specs.StateView.{state_view}
use Rattle.bay_process.specs.Layout.{layout_of}
use Rattle.bay_device.proofs.HeldLemmas.{scan-held}
use Rattle.bay_device.proofs.ScanLemmas.{halted, inputs-named, interlocked, leaf_typed, meters-leaf_typed, ran, scan-done}
use Rattle.bay_device.proofs.state.DeviceState.scan.Goals as goal

pub run_program-steps-requires-clause-leaf_typed : goal.run_program-steps-requires-clause-leaf_typed
run_program-steps-requires-clause-leaf_typed c = let d =
    c.args.self.now in leaf_typed (layout_of d.bay.tree) d.writes d.bay.switches d.bound

pub run_program-steps-requires-clause-metered : goal.run_program-steps-requires-clause-metered
run_program-steps-requires-clause-metered c = let d = c.args.self.now in
    rw c.as_slice.ensures (meters-leaf_typed (layout_of d.bay.tree) d.meters d.metered)

pub run_program-steps-requires-clause-held : goal.run_program-steps-requires-clause-held
run_program-steps-requires-clause-held c =
    rw (c.as_slice.ensures, c.as_slice-2.ensures) c.args.self.now.held

pub write_scan-requires-clause-interlocked : goal.write_scan-requires-clause-interlocked
write_scan-requires-clause-interlocked c = let d =
    c.args.self.now in interlocked (layout_of d.bay.tree) d.writes d.bay.switches d.bound

pub invariant_of-self : goal.invariant_of-self
invariant_of-self c =
    let d = c.args.self.now in
    let did = c.run_program-steps.ensures.scans in
    let wrote = c.write_scan.ensures in
    record {
      bound = rw (wrote.layout, wrote.switches) d.bound;
      metered = rw wrote.layout d.metered;
      valued = d.valued;
      modelled = rw (wrote.layout, wrote.switches) d.modelled;
      released = rw wrote.switches wrote.kept;
      tabled = rw wrote.switches d.tabled;
      typed = d.typed ∙ sym (ap (λ (i : Image). map type_of_point (read_only i.points)) did.image);
      spans_sized = rw wrote.switches d.spans_sized;
      few = d.few;
      spanned = d.spanned;
      held = scan-held d c.write_scan.new.bay.tree c.write_scan.new.bay.switches
          c.outputs.result c.args.now _ _
          (interlocked (layout_of d.bay.tree) d.writes d.bay.switches d.bound)
          (ap (λ (b : Bay). b.rows) wrote.after) wrote.layout wrote.switches
          (rw (c.as_slice.ensures, c.as_slice-2.ensures) at c.run_program-steps.ensures.kept);
    }

pub returns-clause-after : goal.returns-clause-after
returns-clause-after c connections =
    let d = c.args.self.now in
    let s : State = state_view connections d in
    let m = c.run_program-steps.new.machine in
    let steps = c.run_program-steps.result in
    let did = rw (c.as_slice.ensures, c.as_slice-2.ensures) at c.run_program-steps.ensures.scans in
    let read = inputs-named connections d d.bay.switches d.meters d.reads refl refl refl in
    ap (λ (b : Bay). record
    (with_bay b (record s { machine = m; last_scan = Some c.args.now; is_stale = false }))
    { input_values = s.input_values })
    (rw c.outputs.ensures at c.write_scan.ensures.after)
    ∙ scan-done connections d c.args.now _ read m steps (outputs_of m.image.points m.slots) did _
    refl

pub returns-clause-steps : goal.returns-clause-steps
returns-clause-steps c connections =
    let d = c.args.self.now in
    let m = c.run_program-steps.new.machine in
    let did = rw (c.as_slice.ensures, c.as_slice-2.ensures) at c.run_program-steps.ensures.scans in
    let read = inputs-named connections d d.bay.switches d.meters d.reads refl refl refl in
    sym (ap (λ (r : RunResult). r.steps)
    (ran connections d c.args.now _ read m c.run_program-steps.result
    (outputs_of m.image.points m.slots) did))

pub returns-clause-halts : goal.returns-clause-halts
returns-clause-halts c connections =
    let d = c.args.self.now in
    let m = c.run_program-steps.new.machine in
    let did = rw (c.as_slice.ensures, c.as_slice-2.ensures) at c.run_program-steps.ensures.scans in
    let read = inputs-named connections d d.bay.switches d.meters d.reads refl refl refl in
    halted connections d c.args.now _ read m c.run_program-steps.result
    (outputs_of m.image.points m.slots) did _ refl
