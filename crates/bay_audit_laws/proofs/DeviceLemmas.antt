-- What each event leaves of a device by whose program a rule holds.
use Rattle.std.proofs.Common.{◌≡◌, ℕ, ℤ, zero, suc, Bool, false, not, cond, List, [], ◌∷◌, ◌++◌, slice_get, slice_set, Option, None, Some, refl, ap, sym, subst, ◌∙◌}
use Rattle.std.proofs.lemmas.Bool.{or_parts, not-false}
use Rattle.std.specs.Bool.{beq}
use Rattle.bay_base.specs.declared.point.MeterField.{MeterField}
use Rattle.bay_nodes.specs.Names.{cilo_name, float_names, meter_names, switch_names}
use Rattle.bay_nodes.specs.declared.switch.Switch.{Switch}
use Rattle.bay_process.specs.Names.{field_float, field_names}
use Rattle.bay_process.specs.Values.{rows_after_change, has_position as tells_position, has_invalid_measure, has_measure, with_status, with_float}
use Rattle.bay_process.proofs.ModelLemmas.{health-keeps, health-keeps-others, input-keeps, input-keeps-others}
use Rattle.bay_process.proofs.ToldLemmas.{Keeps, field-away, float-away, keeps-contact, keeps-doubt, keeps-measure}
use Rattle.bay_tree.specs.Rows.{leaf_named, with_leaf_named}
use Rattle.bay_base.specs.declared.position.Dbpos.{Dbpos}
use Rattle.bay_tree.specs.declared.leaf.Leaf.TheVariants as leaf
use Rattle.bay_tree.specs.declared.leaf.Quality.TheVariants.{Good, Invalid}
use Rattle.bay_device.specs.Device.{State, device_after_contact, device_at, device_after_bad_measure, device_after_input, device_after_loss, device_after_measure, with_health}
use Rattle.bay_device.specs.Outcomes.{contact_outcome, bad_measure_outcome, event_outcome, input_outcome, measure_outcome}
use Rattle.bay_device.specs.declared.event.Event.{Event}
use Rattle.bay_device.specs.declared.event.Event.TheVariants.{Open, Recv, Close, Contact, Input, Measure, BadMeasure, Lost, Scan}
use Rattle.bay_device.proofs.FreshLemmas.{IsSameTold, same-truth, still-lost, told-others, told-same, told-then}
use Rattle.bay_device.proofs.LostLemmas.{Fixed, lost-fixed, lost-keeps}
use Rattle.bay_device.proofs.SameLemmas.{Parts, Same, same-event}
use Rattle.bay_audit_laws.specs.Laws.{Has32Bits, IsOfType}
use Rattle.bay_audit_laws.proofs.MeasureLemmas.{AllFit, contact-fits, doubt-fits, lost-fits, measure-fits, others-fit}

-- ---- what is no scan

-- No scan was done; where the last one is not stale, the process reports the same, and whatever it
-- reports, the interlocking values stay.
pub record Quiet (s t : State) : Type 0 where
  pub machine : t.machine ≡ s.machine
  pub switches : t.switches ≡ s.switches
  pub meters : t.meters ≡ s.meters
  pub reads : t.reads ≡ s.reads
  pub writes : t.writes ≡ s.writes
  pub scans : t.last_scan ≡ s.last_scan
  pub stale : t.is_stale ≡ false → s.is_stale ≡ false
  pub rows : t.is_stale ≡ false → IsSameTold s.rows t.rows
  pub inputs : t.is_stale ≡ false → t.input_values ≡ s.input_values
  pub keeps : Keeps s.rows t.rows
  pub fits : (count : ℕ) → AllFit count s.rows → AllFit count t.rows

quiet-same : (s t : State) → Same s t → Quiet s t
quiet-same s t same =
    let rows : t.rows ≡ s.rows = ap (λ (p : Parts). p.rows) same in
    record {
      machine = ap (λ (p : Parts). p.machine) same;
      switches = ap (λ (p : Parts). p.switches) same;
      meters = ap (λ (p : Parts). p.meters) same;
      reads = ap (λ (p : Parts). p.reads) same;
      writes = ap (λ (p : Parts). p.writes) same;
      scans = ap (λ (p : Parts). p.scans) same;
      stale = λ h. sym (ap (λ (p : Parts). p.stale) same) ∙ h;
      rows = λ h. told-same s.rows t.rows rows;
      inputs = λ h. ap (λ (p : Parts). p.inputs) same;
      keeps = λ k x. ap (leaf_named (cilo_name k ++ x)) rows;
      fits = λ count all. subst (AllFit count) (sym rows) all;
    }

quiet-then : (s t u : State) → Quiet s t → Quiet t u → Quiet s u
quiet-then s t u p q = record {
  machine = q.machine ∙ p.machine;
  switches = q.switches ∙ p.switches;
  meters = q.meters ∙ p.meters;
  reads = q.reads ∙ p.reads;
  writes = q.writes ∙ p.writes;
  scans = q.scans ∙ p.scans;
  stale = λ h. p.stale (q.stale h);
  rows = λ h. told-then s.rows t.rows u.rows (p.rows (q.stale h)) (q.rows h);
  inputs = λ h. q.inputs h ∙ p.inputs (q.stale h);
  keeps = λ k x. q.keeps k x ∙ p.keeps k x;
  fits = λ count all. q.fits count (p.fits count all);
}

-- the health says what is noted of the process
quiet-health : (now : ℕ) (s : State) → Quiet s (with_health now s)
quiet-health now s = record {
  machine = refl;
  switches = refl;
  meters = refl;
  reads = refl;
  writes = refl;
  scans = refl;
  stale = λ h. h;
  rows = λ h.
      told-others s.rows _ (health-keeps-others s.profile s.is_lost now s.rows);
  inputs = λ h. refl;
  keeps = health-keeps s.profile s.is_lost now s.rows;
  fits = λ count. others-fit count s.rows _
      (health-keeps-others s.profile s.is_lost now s.rows);
}

-- a value that stands there already
set-same : {A : Type 0} (xs : List A) (k : ℕ) (x : A) → slice_get xs k ≡ Some x
    → slice_set xs k x ≡ xs
set-same [] k x here = absurd cc
set-same (y ∷ xs) zero x here = let same : y ≡ x = cc in ap (λ z. z ∷ xs) (sym same)
set-same (y ∷ xs) (suc k) x here = ap (λ zs. y ∷ zs) (set-same xs k x here)

quiet-contact : (now k : ℕ) (switch : Switch) (position : Dbpos) (s : State)
    → Quiet s (device_after_contact now k switch position s)
quiet-contact now k switch position s =
    let names = switch_names s.switches k switch in
    let told : Bool = tells_position names.position position s.rows in
    record {
      machine = refl;
      switches = refl;
      meters = refl;
      reads = refl;
      writes = refl;
      scans = refl;
      stale = λ h. (or_parts s.is_stale (not told) h).0;
      rows = λ h. told-same s.rows _
          (ap (λ (b : Bool). cond b s.rows (rows_after_change names position now s.rows))
          (not-false told (or_parts s.is_stale (not told) h).1));
      inputs = λ h. refl;
      keeps = keeps-contact s.switches k switch position now s.rows;
      fits = λ count. contact-fits count s.switches k switch position now s.rows;
    }

quiet-input : (now k : ℕ) (value before : Bool) (s : State)
    → slice_get s.input_values k ≡ Some before → Quiet s (device_after_input now k value before s)
quiet-input now k value before s here =
    let told : Bool = beq value before in
    record {
      machine = refl;
      switches = refl;
      meters = refl;
      reads = refl;
      writes = refl;
      scans = refl;
      stale = λ h. (or_parts s.is_stale (not told) h).0;
      rows = λ h. told-others s.rows _
          (input-keeps-others s.profile s.inputs s.switches k value now s.rows);
      inputs = λ h. ap (slice_set s.input_values k)
          (same-truth value before (not-false told (or_parts s.is_stale (not told) h).1))
          ∙ set-same s.input_values k before here;
      keeps = input-keeps s.profile s.inputs s.switches k value now s.rows;
      fits = λ count. others-fit count s.rows _
          (input-keeps-others s.profile s.inputs s.switches k value now s.rows);
    }

quiet-measure : (now k : ℕ) (field : MeterField) (value : ℤ) (s : State) → Has32Bits value
    → Quiet s (device_after_measure now k field value s)
quiet-measure now k field value s typed =
    let names = field_names field (meter_names k) in
    let float = field_float field (float_names k) in
    let told : Bool = has_measure names value s.rows in
    record {
      machine = refl;
      switches = refl;
      meters = refl;
      reads = refl;
      writes = refl;
      scans = refl;
      stale = λ h. (or_parts s.is_stale (not told) h).0;
      rows = λ h. told-same s.rows _
          (ap (λ (b : Bool). cond b s.rows
          (with_float float value (with_status names (leaf.Int32 value) Good now s.rows)))
          (not-false told (or_parts s.is_stale (not told) h).1));
      inputs = λ h. refl;
      keeps = keeps-measure names float value now s.rows (field-away k field)
          (float-away k field);
      fits = λ count. measure-fits count names float value now s.rows typed;
    }

quiet-doubt : (now k : ℕ) (field : MeterField) (s : State)
    → Quiet s (device_after_bad_measure now k field s)
quiet-doubt now k field s =
    let names = field_names field (meter_names k) in
    let told : Bool = has_invalid_measure names s.rows in
    record {
      machine = refl;
      switches = refl;
      meters = refl;
      reads = refl;
      writes = refl;
      scans = refl;
      stale = λ h. (or_parts s.is_stale (not told) h).0;
      rows = λ h. told-same s.rows _
          (ap (λ (b : Bool). cond b s.rows
          (with_leaf_named names.time (leaf.Utc now)
          (with_leaf_named names.quality (leaf.Quality Invalid) s.rows)))
          (not-false told (or_parts s.is_stale (not told) h).1));
      inputs = λ h. refl;
      keeps = keeps-doubt names now s.rows (field-away k field);
      fits = λ count. doubt-fits count names now s.rows;
    }

-- the process is lost
quiet-lost : (now : ℕ) (s : State) → Quiet s (device_after_loss now s)
quiet-lost now s =
    let fixed = lost-fixed now s in
    let still = still-lost now s in
    record {
      machine = ap (λ (f : Fixed). f.machine) fixed;
      switches = ap (λ (f : Fixed). f.switches) fixed;
      meters = ap (λ (f : Fixed). f.meters) fixed;
      reads = ap (λ (f : Fixed). f.reads) fixed;
      writes = ap (λ (f : Fixed). f.writes) fixed;
      scans = ap (λ (f : Fixed). f.scans) fixed;
      stale = still.stale;
      rows = still.rows;
      inputs = still.inputs;
      keeps = lost-keeps now s;
      fits = λ count. lost-fits count now s;
    }

-- behind one that is at a moment
quiet-at : (now : ℕ) (s t : State) → Quiet (device_at now s) t → Quiet s t
quiet-at now s t q = record {
  machine = q.machine;
  switches = q.switches;
  meters = q.meters;
  reads = q.reads;
  writes = q.writes;
  scans = q.scans;
  stale = q.stale;
  rows = q.rows;
  inputs = q.inputs;
  keeps = q.keeps;
  fits = q.fits;
}

-- and with its health
quiet-behind : (now : ℕ) (s t : State) → Quiet (device_at now s) t → Quiet s (with_health now t)
quiet-behind now s t q =
    quiet-then s t (with_health now t) (quiet-at now s t q) (quiet-health now t)

-- ---- events that are no scan

module _ (now : ℕ) (s : State) where
  quiet-contact-of : (k : ℕ) (position : Dbpos) (o : Option Switch)
      → Quiet s (contact_outcome now k position s o).after
  quiet-contact-of k position None = quiet-same s s refl
  quiet-contact-of k position (Some switch) =
      quiet-behind now s _ (quiet-contact now k switch position (device_at now s))

  quiet-input-of : (k : ℕ) (value : Bool) (o : Option Bool) → slice_get s.input_values k ≡ o
      → Quiet s (input_outcome now k value s o).after
  quiet-input-of k value None here = quiet-same s s refl
  quiet-input-of k value (Some before) here =
      quiet-behind now s _ (quiet-input now k value before (device_at now s) here)

  quiet-measure-of : (k : ℕ) (field : MeterField) (value : ℤ) (o : Option (List ℕ))
      → Has32Bits value → Quiet s (measure_outcome now k field value s o).after
  quiet-measure-of k field value None typed = quiet-same s s refl
  quiet-measure-of k field value (Some id) typed =
      quiet-behind now s _ (quiet-measure now k field value (device_at now s) typed)

  quiet-doubt-of : (k : ℕ) (field : MeterField) (o : Option (List ℕ))
      → Quiet s (bad_measure_outcome now k field s o).after
  quiet-doubt-of k field None = quiet-same s s refl
  quiet-doubt-of k field (Some id) =
      quiet-behind now s _ (quiet-doubt now k field (device_at now s))

-- whether an event is a scan
abbrev pub IsNoScan : Event → Type 0
IsNoScan (Open a) = Unit {0}
IsNoScan (Recv a octets) = Unit {0}
IsNoScan (Close a) = Unit {0}
IsNoScan (Contact k position) = Unit {0}
IsNoScan (Input k value) = Unit {0}
IsNoScan (Measure k field value) = Unit {0}
IsNoScan (BadMeasure k field) = Unit {0}
IsNoScan Lost = Unit {0}
IsNoScan Scan = ⊥

pub quiet-event : (choice : Option ℕ) (now : ℕ) (event : Event) (s : State) → IsOfType event
    → IsNoScan event
    → Quiet s (event_outcome choice now event s).after
quiet-event choice now (Open a) s typed h =
    quiet-same s _ (same-event now s choice (Open a) tt)
quiet-event choice now (Recv a octets) s typed h =
    quiet-same s _ (same-event now s choice (Recv a octets) tt)
quiet-event choice now (Close a) s typed h =
    quiet-same s _ (same-event now s choice (Close a) tt)
quiet-event choice now (Contact k position) s typed h =
    quiet-contact-of now s k position (slice_get s.switches k)
quiet-event choice now (Input k value) s typed h =
    quiet-input-of now s k value (slice_get s.input_values k) refl
quiet-event choice now (Measure k field value) s typed h =
    quiet-measure-of now s k field value (slice_get s.meters k) typed
quiet-event choice now (BadMeasure k field) s typed h =
    quiet-doubt-of now s k field (slice_get s.meters k)
quiet-event choice now Lost s typed h = quiet-behind now s _ (quiet-lost now (device_at now s))
quiet-event choice now Scan s typed h = absurd h

pub quiet-nothing : (s : State) → Quiet s s
quiet-nothing s = quiet-same s s refl
