-- What a scan makes of a device.
use Rattle.std.proofs.Common.{◌≡◌, ℕ, suc, ◌+◌, false, List, [], ◌∷◌, length, map, get_or, slice_get, Option, Some, None, option_map, refl, ap, sym, ◌∙◌, subst, arith}
use Rattle.std.proofs.lemmas.Option.{slice_get-map, slice_get-get_or}
use Rattle.bay_tree.specs.declared.row.Row.{Row}
use Rattle.bay_tree.specs.Rows.{leaf_named}
use Rattle.bay_base.specs.declared.point.MeterField.{MeterField}
use Rattle.bay_base.specs.declared.point.Source.{Source}
use Rattle.bay_base.specs.declared.point.Source.TheVariants as source
use Rattle.bay_nodes.specs.declared.switch.Switch.{Switch}
use Rattle.bay_base.specs.declared.point.SwitchPoint.{SwitchPoint}
use Rattle.il_image.specs.Machine.{Halted, Ending, run_from}
use Rattle.il_image.specs.declared.value.Value.{Value}
use Rattle.il_image.specs.declared.value.Value.TheVariants.{Long}
use Rattle.il_scan.specs.OutputValues.{is_true}
use Rattle.il_scan.specs.Scans.{MachineData, Scans, outputs_of, scan_start}
use Rattle.bay_connection.specs.ConnectionStates.{ConnectionState}
use Rattle.bay_device.specs.Device.{State, RunResult, after_run, ending_at, inputs_of, point_value, run_result_at, run_result_of, after_scan}
use Rattle.bay_process.specs.Values.{measure_leaf, number_of_leaf, output_at, position_leaf, position_value, with_output, with_outputs}
use Rattle.bay_process.specs.Layout.{Layout, layout_of, switches_of, IsBound, AreBound, AreLeafTyped, AreMetersBound, AreMetersLeafTyped}
use Rattle.bay_device.specs.Meaning.{Halts}
use Rattle.bay_nodes.specs.Names.{StatusNames, SwitchNames, switch_names}
use Rattle.bay_process.specs.Names.{field_names}
use Rattle.bay_process.specs.Scans.{source_value, meter_value, rows_after_outputs, switch_value}
use Rattle.bay_device.specs.StateView.{state_view}
use Rattle.bay_process.specs.ReportedRows.{AreInterlocked}
use Rattle.bay_process.specs.declared.meter.BoundMeter.{BoundMeter}
use Rattle.bay_device.specs.declared.state.DeviceState.{DeviceState}
use Rattle.bay_process.specs.declared.switch.BoundSwitch.{BoundSwitch}
use Rattle.bay_process.proofs.FieldLemmas.{field-named}

-- the values at the handles of bound switches and meters have the kinds that a step wants
pub leaf_typed : (layout : Layout) (writes : List Source) (bound : List BoundSwitch)
    → AreBound layout writes bound → AreLeafTyped layout bound
leaf_typed layout writes bound all k d lt =
    (all k (get_or bound k d) (slice_get-get_or bound k d lt)).leaf_typed

pub meters-leaf_typed : (layout : Layout) (bound : List BoundMeter) → AreMetersBound layout bound
    → AreMetersLeafTyped layout bound
meters-leaf_typed layout bound all k d lt =
    (all k (get_or bound k d) (slice_get-get_or bound k d lt)).leaf_typed

-- those of the interlocking values have their names
pub interlocked : (layout : Layout) (writes : List Source) (bound : List BoundSwitch)
    → AreBound layout writes bound → AreInterlocked layout bound
interlocked layout writes bound all k b here =
    let is = all k b here in
    record {
      leaf_typed = is.leaf_typed;
      named = record {
        opening = ap (λ (n : SwitchNames). n.ena_opn) is.named;
        closing = ap (λ (n : SwitchNames). n.ena_cls) is.named;
      };
    }

-- what is read at handles is read by names
module _ (connections : List (Option ConnectionState)) (d : DeviceState) where
  switch-named : (k : ℕ) (point : SwitchPoint) (b : Option BoundSwitch)
      → slice_get d.bay.switches k ≡ b
      → switch_value d.bay.tree point b
      ≡ position_value point
      (position_leaf (switches_of d.bay.switches) d.bay.tree k
      (option_map (λ (b : BoundSwitch). b.switch) b))
  switch-named k point None here = refl
  switch-named k point (Some b) here =
      ap (λ (n : SwitchNames). position_value point (leaf_named n.position.value d.bay.tree))
      (d.bound k b here).named

  meter-named : (k : ℕ) (field : MeterField) (m : Option BoundMeter) → slice_get d.meters k ≡ m
      → meter_value d.bay.tree field m
      ≡ Long (number_of_leaf
      (measure_leaf d.bay.tree k field (option_map (λ (m : BoundMeter). m.id) m)))
  meter-named k field None here = refl
  meter-named k field (Some m) here =
      ap (λ (n : StatusNames). Long (number_of_leaf (leaf_named n.value d.bay.tree)))
      (field-named (layout_of d.bay.tree) m.rows field
      ∙ ap (field_names field) (d.metered k m here).named)

  pub point-named : (o : Source)
      → source_value d.bay.tree d.bay.switches d.input_values d.meters o
      ≡ point_value (state_view connections d) o
  point-named (source.Switch k point) =
      switch-named k point (slice_get d.bay.switches k) refl
      ∙ ap (λ s. position_value point (position_leaf (switches_of d.bay.switches) d.bay.tree k s))
      (sym (slice_get-map (λ (b : BoundSwitch). b.switch) d.bay.switches k))
  point-named (source.Input k) = refl
  point-named (source.Meter k field) =
      meter-named k field (slice_get d.meters k) refl
      ∙ ap (λ m. Long (number_of_leaf (measure_leaf d.bay.tree k field m)))
      (sym (slice_get-map (λ (m : BoundMeter). m.id) d.meters k))

  points-named : (os : List Source)
      → map (source_value d.bay.tree d.bay.switches d.input_values d.meters) os
      ≡ map (point_value (state_view connections d)) os
  points-named [] = refl
  points-named (o ∷ os) =
      ap (λ v. v ∷ map (source_value d.bay.tree d.bay.switches d.input_values d.meters) os)
      (point-named o)
      ∙ ap (λ (vs : List Value). point_value (state_view connections d) o ∷ vs) (points-named os)

  pub inputs-named : (switches : List BoundSwitch) (meters : List BoundMeter) (reads : List Source)
      → switches ≡ d.bay.switches → meters ≡ d.meters → reads ≡ d.reads
      → map (source_value d.bay.tree switches d.input_values meters) reads
      ≡ inputs_of (state_view connections d)
  inputs-named switches meters reads a b c = rw (a, b, c) (points-named d.reads)

-- the interlocking values of all switches
module _ (layout : Layout) (switches : List Switch) (writes : List Source) (outputs : List Value)
    (now : ℕ) where
  outputs-named : (k : ℕ) (bound : List BoundSwitch) (rows : List Row)
      → ((j : ℕ) (b : BoundSwitch) → slice_get bound j ≡ Some b
      → IsBound layout writes switches (k + j) b)
      → rows_after_outputs layout bound outputs now rows
      ≡ with_outputs switches writes outputs now k (switches_of bound) rows
  outputs-named k [] rows all = refl
  outputs-named k (b ∷ bs) rows all =
      let here : IsBound layout writes switches k b = let none : k + 0 ≡ k =
      omega arith in subst (λ m. IsBound layout writes switches m b) none (all 0 b refl) in
      ap (λ n. rows_after_outputs layout bs outputs now
      (with_output n (is_true (output_at b.outputs.ena_opn outputs))
      (is_true (output_at b.outputs.ena_cls outputs)) now rows)) here.named
      ∙ ap (λ o. rows_after_outputs layout bs outputs now
      (with_output (switch_names switches k b.switch) (is_true (output_at o.ena_opn outputs))
      (is_true (output_at o.ena_cls outputs)) now rows)) here.outputs
      ∙ outputs-named (k + 1) bs _
      (λ j c h. let more : k + suc j ≡ k + 1 + j = omega arith in
      subst (λ m. IsBound layout writes switches m c) more (all (suc j) c h))

-- a machine with another's image
held-as : (old new : MachineData) → new.image ≡ old.image
    → new ≡ record old { slots = new.slots; timers = new.timers }
held-as old new e =
    ap (λ i. let h : MachineData = record { image = i; slots = new.slots; timers = new.timers } in
    h) e

-- a scan of the machine
module _ (connections : List (Option ConnectionState)) (d : DeviceState) (now : ℕ)
    (inputs : List Value)
    (read : inputs ≡ inputs_of (state_view connections d)) (new : MachineData) (steps : ℕ)
    (outputs : List Value) (did : Scans d.machine inputs now new steps outputs) where
  pub ended : ending_at now (state_view connections d) ≡ Halted new.slots new.timers steps
  ended =
      ap (λ is. let s : Ending =
      run_from d.machine.image.code now (length d.machine.image.code) (scan_start d.machine is) 0 in
      s)
      (sym read)
      ∙ did.halts (length d.machine.image.code) did.few

  pub ran : run_result_at now (state_view connections d)
      ≡ record { slots = new.slots; timers = new.timers; steps = steps }
  ran = ap run_result_of ended

  pub halted : (after : State) → after.machine ≡ new
      → Halts now (state_view connections d) steps after
  halted after left = record {
    halts = ended ∙ sym (ap (λ (h : MachineData). Halted h.slots h.timers steps) left);
    within = did.within;
  }

  pub scan-done : (rows : List Row)
      → rows ≡ rows_after_outputs (layout_of d.bay.tree) d.bay.switches outputs now d.bay.tree
      → record (state_view connections d)
      { machine = new; rows = rows; last_scan = Some now; is_stale = false }
      ≡ after_scan now (state_view connections d)
  scan-done rows writes =
      let s = state_view connections d in
      let written : rows ≡ with_outputs s.switches s.writes outputs now 0 s.switches s.rows =
      writes ∙ outputs-named (layout_of d.bay.tree) s.switches d.writes outputs now 0 d.bay.switches
      d.bay.tree
      (λ j b h. let none : j ≡ 0 + j = omega arith in
      subst (λ m. IsBound (layout_of d.bay.tree) d.writes s.switches m b) none (d.bound j b h))
      in
      ap (λ rs. record s { machine = new; rows = rs; last_scan = Some now; is_stale = false })
      written
      ∙ ap (λ os. record s {
        machine = new;
        rows = with_outputs s.switches s.writes os now 0 s.switches s.rows;
        last_scan = Some now;
        is_stale = false;
      }) did.given
      ∙ ap (λ h. record s {
        machine = h;
        rows = with_outputs s.switches s.writes (outputs_of d.machine.image.points new.slots) now
            0 s.switches s.rows;
        last_scan = Some now;
        is_stale = false;
      })
      (held-as d.machine new did.image)
      ∙ ap (λ (r : RunResult). after_run now r s) (sym ran)
