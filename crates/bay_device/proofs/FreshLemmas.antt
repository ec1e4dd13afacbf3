-- Behind each command is a fresh scan, by what the process told after each event since.
use Rattle.std.proofs.Common.{◌≡◌, ◌≢◌, ◌≤◌, ◌+◌, ◌-◌, ℕ, ℤ, Bool, true, false, not, cond, nat_lt, List, [], ◌∷◌, ◌++◌, All, map, slice_get, slice_set, unwrap_or, Option, None, Some, Result, Ok, Err, IfOk, IsOk, refl, ap, ap₂, sym, ◌∙◌, subst, arith, is_ok, is_some, length}
use Rattle.std.specs.Bool.{beq}
use Rattle.std.specs.List.{AllByRecursion, position, position_or_len}
use Rattle.std.proofs.lemmas.Bool.{and_parts, leb-true, or_parts, not-false, not-true}
use Rattle.std.proofs.lemmas.Bool.Decides.{nat_tests}
use Rattle.bay_base.specs.declared.point.MeterField.{MeterField}
use Rattle.bay_base.specs.declared.point.Source.{Source}
use Rattle.bay_base.specs.declared.point.Source.TheVariants as source
use Rattle.il_compile.proofs.Memories.{set-same}
use Rattle.il_image.specs.declared.value.Value.{Value}
use Rattle.il_image.specs.declared.value.Value.TheVariants.{Long, Truth}
use Rattle.bay_nodes.specs.Names.{StatusNames, switch_names, meter_names, position_names, float_names}
use Rattle.bay_nodes.specs.Node.{class_of, node_name, node_number}
use Rattle.bay_nodes.specs.declared.switch.Switch.{Switch}
use Rattle.bay_base.specs.declared.switch.SwitchKind.{SwitchKind}
use Rattle.bay_process.specs.Model.{rows_after_health}
use Rattle.bay_process.specs.Names.{field_float, field_names}
use Rattle.bay_process.proofs.ModelLemmas.{KeepsOthers, health-keeps-others, input-keeps-others, lost-inputs-keep-others, unmodelled-field, unmodelled-position}
use Rattle.bay_process.specs.Values.{measure_leaf, number_of_leaf, position_leaf, position_value, rows_after_bad_measure, rows_after_change, rows_after_contact, rows_after_measure, has_position, has_invalid_measure, has_measure, with_status, with_float}
use Rattle.bay_mms_services.specs.declared.answer.Command.{Command}
use Rattle.bay_mms_services.proofs.ReleaseLemmas.{all-of}
use Rattle.bay_tree.specs.Rows.{leaf_named, with_leaf_named}
use Rattle.bay_tree.specs.declared.row.Row.{Row}
use Rattle.bay_base.specs.declared.position.Dbpos.{Dbpos}
use Rattle.bay_base.specs.declared.position.Dbpos.TheVariants.{Bad}
use Rattle.bay_tree.specs.declared.leaf.Leaf.TheVariants as leaf
use Rattle.bay_tree.specs.declared.leaf.Quality.TheVariants.{Good, Invalid}
use Rattle.bay_device.specs.Commands.{AreCommanded, IsReleasedAt}
use Rattle.bay_device.specs.Device.{State, device_after_contact, device_at, device_after_bad_measure, device_after_input, device_after_measure, inputs_lost, inputs_of, device_after_loss, is_fresh, is_recent, point_value, after_scan, with_health}
use Rattle.bay_device.specs.Fresh.{IsHistory, FreshAt, HasScan, IsFresh, IsSameProcess, IsSameStatus, PastEvent, is_heard_after, is_heard}
use Rattle.bay_device.specs.Outcomes.{Outcome, contact_outcome, bad_measure_outcome, event_outcome, input_outcome, last_moment, measure_outcome, outcome, refusal_outcome}
use Rattle.bay_device.specs.Steps.{OfAssociation, Steps}
use Rattle.bay_device.specs.declared.event.Event.{Event}
use Rattle.bay_device.specs.declared.event.Event.TheVariants.{Open, Recv, Close, Contact, Input, Measure, BadMeasure, Lost, Scan}
use Rattle.bay_device.specs.declared.event.Step.{Step}
use Rattle.bay_device.specs.declared.fault.StepFault.{StepFault}
use Rattle.bay_device.specs.declared.fault.StepFault.TheVariants.{MomentTooLarge, TimeWentBack}
use Rattle.bay_device.proofs.CommandLemmas.{step-commanded}
use Rattle.bay_device.proofs.LostLemmas.{loss-passes}
use Rattle.bay_device.proofs.SameLemmas.{Parts, Same, same-event}

-- ---- what the process tells

-- the positions and the measured values are the same, with their qualities
pub record IsSameTold (before after : List Row) : Type 0 where
  pub positions : (kind : SwitchKind) (number : ℕ)
      → IsSameStatus (position_names (node_name (class_of kind) number)) before after
  pub measures : (k : ℕ) (field : MeterField)
      → IsSameStatus (field_names field (meter_names k)) before after

pub told-same : (before after : List Row) → after ≡ before → IsSameTold before after
told-same before after rows = record {
  positions = λ kind n. record { value = ap (leaf_named _) rows; quality = ap (leaf_named _) rows };
  measures = λ k field. record { value = ap (leaf_named _) rows; quality = ap (leaf_named _) rows };
}

status-then : (names : StatusNames) (a b c : List Row) → IsSameStatus names a b
    → IsSameStatus names b c → IsSameStatus names a c
status-then names a b c p q =
    record { value = q.value ∙ p.value; quality = q.quality ∙ p.quality }

pub told-then : (a b c : List Row) → IsSameTold a b → IsSameTold b c → IsSameTold a c
told-then a b c p q = record {
  positions = λ kind n.
      status-then (position_names (node_name (class_of kind) n)) a b c (p.positions kind n)
      (q.positions kind n);
  measures = λ k field.
      status-then (field_names field (meter_names k)) a b c (p.measures k field)
      (q.measures k field);
}

-- what changes rows of profile 2 alone tells the same
pub told-others : (before after : List Row) → KeepsOthers before after → IsSameTold before after
told-others before after keeps = record {
  positions = λ kind n. record {
    value = keeps _ (unmodelled-position kind n).value_other;
    quality = keeps _ (unmodelled-position kind n).quality_other;
  };
  measures = λ k field. record {
    value = keeps _ (unmodelled-field field k).value_other;
    quality = keeps _ (unmodelled-field field k).quality_other;
  };
}

same-process : (s t : State) → IsSameTold s.rows t.rows → t.input_values ≡ s.input_values
    → IsSameProcess s t
same-process s t told inputs =
    record { positions = told.positions; inputs = inputs; measures = told.measures }

pub process-same : (s t : State) → t.rows ≡ s.rows → t.input_values ≡ s.input_values
    → IsSameProcess s t
process-same s t rows inputs = same-process s t (told-same s.rows t.rows rows) inputs

-- ---- what is no scan

-- No scan was done, and where the last one is not stale all values of the process are the same.
pub record Still (s t : State) : Type 0 where
  pub scans : t.last_scan ≡ s.last_scan
  pub stale : t.is_stale ≡ false → s.is_stale ≡ false
  pub rows : t.is_stale ≡ false → IsSameTold s.rows t.rows
  pub inputs : t.is_stale ≡ false → t.input_values ≡ s.input_values

still-same : (s t : State) → Same s t → Still s t
still-same s t same = record {
  scans = ap (λ (p : Parts). p.scans) same;
  stale = λ h. sym (ap (λ (p : Parts). p.stale) same) ∙ h;
  rows = λ h. told-same s.rows t.rows (ap (λ (p : Parts). p.rows) same);
  inputs = λ h. ap (λ (p : Parts). p.inputs) same;
}

-- two truths that compare as one
pub same-truth : (a b : Bool) → beq a b ≡ true → a ≡ b
same-truth true true h = refl
same-truth true false h = absurd cc
same-truth false true h = absurd cc
same-truth false false h = refl

still-none : (s : State) → Still s s
still-none s = record {
  scans = refl;
  stale = λ h. h;
  rows = λ h. told-same s.rows s.rows refl;
  inputs = λ h. refl;
}

still-then : (s t u : State) → Still s t → Still t u → Still s u
still-then s t u p q = record {
  scans = q.scans ∙ p.scans;
  stale = λ h. p.stale (q.stale h);
  rows = λ h. told-then s.rows t.rows u.rows (p.rows (q.stale h)) (q.rows h);
  inputs = λ h. q.inputs h ∙ p.inputs (q.stale h);
}

still-health : (now : ℕ) (s : State) → Still s (with_health now s)
still-health now s = record {
  scans = refl;
  stale = λ h. h;
  rows = λ h.
      told-others s.rows (rows_after_health s.profile s.is_lost now s.rows)
      (health-keeps-others s.profile s.is_lost now s.rows);
  inputs = λ h. refl;
}

module _ (now : ℕ) (s : State) where
  still-at : Still s (device_at now s)
  still-at = record {
    scans = refl;
    stale = λ h. h;
    rows = λ h. told-same s.rows s.rows refl;
    inputs = λ h. refl;
  }

  still-moved : (k : ℕ) (switch : Switch) (position : Dbpos)
      → Still s (device_after_contact now k switch position s)
  still-moved k switch position =
      let names = switch_names s.switches k switch in
      let told : Bool = has_position names.position position s.rows in
      record {
        scans = refl;
        stale = λ h. (or_parts s.is_stale (not told) h).0;
        rows = λ h.
            told-same s.rows (rows_after_contact names position now s.rows)
            (ap (λ (b : Bool). cond b s.rows (rows_after_change names position now s.rows))
            (not-false told (or_parts s.is_stale (not told) h).1));
        inputs = λ h. refl;
      }

  still-reported : (k : ℕ) (value before : Bool) → slice_get s.input_values k ≡ Some before
      → Still s (device_after_input now k value before s)
  still-reported k value before here =
      let told : Bool = beq value before in
      record {
        scans = refl;
        stale = λ h. (or_parts s.is_stale (not told) h).0;
        rows = λ h.
            told-others s.rows _
            (input-keeps-others s.profile s.inputs s.switches k value now s.rows);
        inputs = λ h.
            let is : value ≡ before =
            same-truth value before (not-false told (or_parts s.is_stale (not told) h).1) in
            ap (slice_set s.input_values k) is ∙ set-same s.input_values k before here;
      }

  still-measured : (k : ℕ) (field : MeterField) (value : ℤ)
      → Still s (device_after_measure now k field value s)
  still-measured k field value =
      let names = field_names field (meter_names k) in
      let float = field_float field (float_names k) in
      let told : Bool = has_measure names value s.rows in
      record {
        scans = refl;
        stale = λ h. (or_parts s.is_stale (not told) h).0;
        rows = λ h.
            told-same s.rows (rows_after_measure names float value now s.rows)
            (ap (λ (b : Bool). cond b s.rows
            (with_float float value (with_status names (leaf.Int32 value) Good now s.rows)))
            (not-false told (or_parts s.is_stale (not told) h).1));
        inputs = λ h. refl;
      }

  still-invalid : (k : ℕ) (field : MeterField) → Still s (device_after_bad_measure now k field s)
  still-invalid k field =
      let names = field_names field (meter_names k) in
      let told : Bool = has_invalid_measure names s.rows in
      record {
        scans = refl;
        stale = λ h. (or_parts s.is_stale (not told) h).0;
        rows = λ h.
            told-same s.rows (rows_after_bad_measure names now s.rows)
            (ap (λ (b : Bool). cond b s.rows
            (with_leaf_named names.time (leaf.Utc now)
            (with_leaf_named names.quality (leaf.Quality Invalid) s.rows)))
            (not-false told (or_parts s.is_stale (not told) h).1));
        inputs = λ h. refl;
      }

  -- what the process reports at a moment, and the health after it
  still-event : (t : State) → Still (device_at now s) t → Still s (with_health now t)
  still-event t still =
      still-then s (device_at now s) (with_health now t) still-at
      (still-then (device_at now s) t (with_health now t) still (still-health now t))

module _ (now : ℕ) (s : State) where
  still-contact : (k : ℕ) (position : Dbpos) (o : Option Switch)
      → Still s (contact_outcome now k position s o).after
  still-contact k position None = still-none s
  still-contact k position (Some switch) =
      still-event now s (device_after_contact now k switch position (device_at now s))
      (still-moved now (device_at now s) k switch position)

  still-input : (k : ℕ) (value : Bool) (o : Option Bool) → slice_get s.input_values k ≡ o
      → Still s (input_outcome now k value s o).after
  still-input k value None here = still-none s
  still-input k value (Some before) here =
      still-event now s (device_after_input now k value before (device_at now s))
      (still-reported now (device_at now s) k value before here)

  still-measure : (k : ℕ) (field : MeterField) (value : ℤ) (o : Option (List ℕ))
      → Still s (measure_outcome now k field value s o).after
  still-measure k field value None = still-none s
  still-measure k field value (Some id) =
      still-event now s (device_after_measure now k field value (device_at now s))
      (still-measured now (device_at now s) k field value)

  still-doubt : (k : ℕ) (field : MeterField) (o : Option (List ℕ))
      → Still s (bad_measure_outcome now k field s o).after
  still-doubt k field None = still-none s
  still-doubt k field (Some id) =
      still-event now s (device_after_bad_measure now k field (device_at now s))
      (still-invalid now (device_at now s) k field)

-- ---- a process that is lost

-- inputs of which none is TRUE are FALSE
found-none : (b : Bool) (n : ℕ) → is_some (cond b (Some n) None) ≡ false → b ≡ false
found-none false n h = refl
found-none true n h = absurd cc

all-false : (values : List Bool)
    → nat_lt (position_or_len (λ value. value) values) (length values) ≡ false
    → map (λ _. false) values ≡ values
all-false [] h = refl
all-false (true ∷ values) h = absurd (grind (arith, nat_tests))
all-false (false ∷ values) h =
    let rest : nat_lt (position_or_len (λ value. value) values) (length values) ≡ false =
    grind (arith, nat_tests) in
    ap (λ (vs : List Bool). false ∷ vs) (all-false values rest)

still-inputs : (now : ℕ) (s : State) → Still s (inputs_lost now s)
still-inputs now s =
    let some : Bool = is_some (position (λ value. value) s.input_values) in
    record {
      scans = refl;
      stale = λ h. (or_parts s.is_stale some h).0;
      rows = λ h.
          told-others s.rows _ (lost-inputs-keep-others s.profile s.inputs s.switches now s.rows);
      inputs = λ h.
          all-false s.input_values (found-none _ _ (or_parts s.is_stale some h).1);
    }

pub still-lost : (now : ℕ) (s : State) → Still s (device_after_loss now s)
still-lost now s =
    loss-passes (Still s) now
    (λ k switch t p. still-then s t _ p (still-moved now t k switch Bad))
    (λ k field t p. still-then s t _ p (still-invalid now t k field))
    (λ t p. still-then s t (inputs_lost now t) p (still-inputs now t))
    (λ t p. record { scans = p.scans; stale = p.stale; rows = p.rows; inputs = p.inputs }) s
    (still-none s)

-- ---- the scan that stands behind

-- A scan was done at a moment; after each event since, the process tells the same, and the device
-- has the values that the scan left.
pub record Since (m : ℕ) (past : List PastEvent) (s : State) : Type 0 where
  pub since : List PastEvent
  pub scan : PastEvent
  pub earlier : List PastEvent
  pub split : past ≡ since ++ scan ∷ earlier
  pub scanned : scan.event ≡ Scan
  pub done : IsOk scan.answer
  pub at : scan.now ≡ m
  pub unchanged : AllByRecursion (λ (p : PastEvent). IsSameProcess scan.after p.after) since
  pub rows : IsSameTold scan.after.rows s.rows
  pub inputs : s.input_values ≡ scan.after.input_values

-- the last scan is so, where it is not stale, and the device notes whether the process is lost
pub record Tracks (past : List PastEvent) (s : State) : Type 0 where
  pub since_scan : (m : ℕ) → s.last_scan ≡ Some m → s.is_stale ≡ false → Since m past s
  pub heard : is_heard past ≡ not s.is_lost

pub tracks-first : (first : State) → IsHistory [] first → Tracks [] first
tracks-first first came = record {
  since_scan = λ m scans fresh.
      let none : first.last_scan ≡ None = ap (λ (t : State). t.last_scan) came.2 in
      absurd (let no : None ≡ (let o : Option ℕ = Some m in o) = sym none ∙ scans in cc);
  heard = sym (ap (λ (t : State). not t.is_lost) came.2);
}

-- the same either way
either : (b h x : Bool) → h ≡ x → cond b h h ≡ x
either true h x is = is
either false h x is = is

module _ (past : List PastEvent) (s : State) (tracks : Tracks past s) (now : ℕ) where
  -- behind an event with this outcome
  abbrev Led : Event → Outcome → Type 0
  Led event o =
      Tracks (record { now = now; event = event; answer = o.answer; after = o.after } ∷ past)
      o.after

  -- what is noted of the process
  abbrev Hears : Event → Outcome → Type 0
  Hears event o =
      cond (is_ok o.answer) (is_heard_after event (is_heard past)) (is_heard past)
      ≡ not o.after.is_lost

  led-still : (event : Event) (o : Outcome) → Still s o.after → Hears event o → Led event o
  led-still event o still heard = record {
    since_scan = λ m scans fresh.
        let w : Since m past s =
        tracks.since_scan m (sym still.scans ∙ scans) (still.stale fresh) in
        let rows : IsSameTold w.scan.after.rows o.after.rows =
        told-then w.scan.after.rows s.rows o.after.rows w.rows (still.rows fresh) in
        let inputs : o.after.input_values ≡ w.scan.after.input_values =
        still.inputs fresh ∙ w.inputs in
        let p : PastEvent =
        record { now = now; event = event; answer = o.answer; after = o.after } in
        record {
          since = p ∷ w.since;
          scan = w.scan;
          earlier = w.earlier;
          split = ap (λ (ps : List PastEvent). p ∷ ps) w.split;
          scanned = w.scanned;
          done = w.done;
          at = w.at;
          unchanged = (same-process w.scan.after o.after rows inputs, w.unchanged);
          rows = rows;
          inputs = inputs;
        };
    heard = heard;
  }

  led-scan : Led Scan (event_outcome None now Scan s)
  led-scan = record {
    since_scan = λ m scans fresh.
        let t : State = after_scan now (device_at now s) in
        let at : now ≡ m = (let e : (let o : Option ℕ = Some now in o) ≡ Some m = scans in cc) in
        record {
          since = [];
          scan =
              record {
                now = now;
                event = Scan;
                answer = (event_outcome None now Scan s).answer;
                after = t;
              };
          earlier = past;
          split = refl;
          scanned = refl;
          done = refl;
          at = at;
          unchanged = tt;
          rows = told-same t.rows t.rows refl;
          inputs = refl;
        };
    heard = tracks.heard;
  }

  led-same : (choice : Option ℕ) (event : Event) → OfAssociation event
      → is_heard_after event (is_heard past) ≡ is_heard past
      → Led event (event_outcome choice now event s)
  led-same choice event of stays =
      let o : Outcome = event_outcome choice now event s in
      let same : Same s o.after = same-event now s choice event of in
      led-still event o (still-same s o.after same)
      (ap (λ h. cond (is_ok o.answer) h (is_heard past)) stays
      ∙ either (is_ok o.answer) (is_heard past) (not o.after.is_lost)
      (tracks.heard ∙ sym (ap (λ (p : Parts). not p.lost) same)))

  hears-contact : (k : ℕ) (position : Dbpos) (o : Option Switch)
      → Hears (Contact k position) (contact_outcome now k position s o)
  hears-contact k position None = tracks.heard
  hears-contact k position (Some switch) = refl

  hears-input : (k : ℕ) (value : Bool) (o : Option Bool)
      → Hears (Input k value) (input_outcome now k value s o)
  hears-input k value None = tracks.heard
  hears-input k value (Some before) = refl

  hears-measure : (k : ℕ) (field : MeterField) (value : ℤ) (o : Option (List ℕ))
      → Hears (Measure k field value) (measure_outcome now k field value s o)
  hears-measure k field value None = tracks.heard
  hears-measure k field value (Some id) = refl

  hears-doubt : (k : ℕ) (field : MeterField) (o : Option (List ℕ))
      → Hears (BadMeasure k field) (bad_measure_outcome now k field s o)
  hears-doubt k field None = tracks.heard
  hears-doubt k field (Some id) = refl

  led-event : (choice : Option ℕ) (event : Event)
      → Led event (event_outcome choice now event s)
  led-event choice (Open a) = led-same choice (Open a) tt refl
  led-event choice (Recv a octets) = led-same choice (Recv a octets) tt refl
  led-event choice (Close a) = led-same choice (Close a) tt refl
  led-event choice (Contact k position) =
      led-still (Contact k position) _
      (still-contact now s k position (slice_get s.switches k))
      (hears-contact k position (slice_get s.switches k))
  led-event choice (Input k value) =
      led-still (Input k value) _ (still-input now s k value (slice_get s.input_values k) refl)
      (hears-input k value (slice_get s.input_values k))
  led-event choice (Measure k field value) =
      led-still (Measure k field value) _
      (still-measure now s k field value (slice_get s.meters k))
      (hears-measure k field value (slice_get s.meters k))
  led-event choice (BadMeasure k field) =
      led-still (BadMeasure k field) _ (still-doubt now s k field (slice_get s.meters k))
      (hears-doubt k field (slice_get s.meters k))
  led-event choice Lost =
      led-still Lost _
      (still-event now s (device_after_loss now (device_at now s))
      (still-lost now (device_at now s))) refl
  led-event choice Scan = led-scan

  led-if : (late early : Bool) (event : Event) (o : Outcome) → Led event o
      → Led event
      (cond late (refusal_outcome MomentTooLarge s) (cond early (refusal_outcome TimeWentBack s) o))
  led-if true early event o led = led-still event _ (still-none s) tracks.heard
  led-if false true event o led = led-still event _ (still-none s) tracks.heard
  led-if false false event o led = led

  pub tracks-event : (choice : Option ℕ) (event : Event)
      → Led event (outcome choice now event s)
  tracks-event choice event =
      led-if (nat_lt last_moment now) (nat_lt now s.moment) event
      (event_outcome choice now event s) (led-event choice event)

-- ---- commands

first-released : (now : ℕ) (s : State) (commands : List Command)
    → All (IsReleasedAt now s) commands → commands ≢ []
    → (x : Command) × IsReleasedAt now s x
first-released now s [] all some = absurd (some refl)
first-released now s (x ∷ commands) all some = (x, all 0 x (omega arith))

recent-at : (now age : ℕ) (o : Option ℕ) → is_recent now age o ≡ true
    → (m : ℕ) × (o ≡ Some m) × (now ≤ m + age)
recent-at now age None h = absurd cc
recent-at now age (Some m) h = let within : now - m ≤ age =
    leb-true (now - m) age h in (m, refl, omega arith)

-- what the device notes of a scan that is fresh
pub record ScannedAt (now : ℕ) (s : State) : Type 0 where
  pub at : ℕ
  pub is : s.last_scan ≡ Some at
  pub within : now ≤ at + s.scan_max_age_ms
  pub fresh : s.is_stale ≡ false

pub fresh-at : (now : ℕ) (s : State) → is_fresh now s ≡ true → ScannedAt now s
fresh-at now s fresh =
    let parts =
    and_parts (is_recent now s.scan_max_age_ms s.last_scan) (not s.is_stale) fresh in
    let recent = recent-at now s.scan_max_age_ms s.last_scan parts.0 in
    record {
      at = recent.0;
      is = recent.1;
      within = recent.2;
      fresh = not-true s.is_stale parts.1;
    }

abbrev pub has-since : (now age m : ℕ) (past : List PastEvent) (s : State) → Since m past s
    → now ≤ m + age → is_heard past ≡ true → HasScan now age past
has-since now age m past s w near heard = record {
  since = w.since;
  scan = w.scan;
  earlier = w.earlier;
  split = w.split;
  scanned = w.scanned;
  done = w.done;
  recent = omega (arith, w.at, near);
  unchanged = all-of (λ (p : PastEvent). IsSameProcess w.scan.after p.after) w.since w.unchanged;
  heard = heard;
}

has-scan : (now : ℕ) (past : List PastEvent) (s : State) → Tracks past s → is_fresh now s ≡ true
    → s.is_lost ≡ false → HasScan now s.scan_max_age_ms past
has-scan now past s tracks fresh heard =
    let r = fresh-at now s fresh in
    has-since now s.scan_max_age_ms r.at past s (tracks.since_scan r.at r.is r.fresh) r.within
    (tracks.heard ∙ ap not heard)

fresh-if : (now : ℕ) (past : List PastEvent) (s : State) (answer : Result Step StepFault)
    → Tracks past s → IfOk answer (AreCommanded now s) → IsFresh now s.scan_max_age_ms past answer
fresh-if now past s (Ok step) tracks commanded =
    λ some.
    let first = first-released now s step.commands commanded.released some in
    has-scan now past s tracks first.1.fresh first.1.heard
fresh-if now past s (Err fault) tracks commanded = tt

-- ---- since load

-- an event that was done so
done-past : (p : PastEvent) (past : List PastEvent) (o : Outcome) → p.answer ≡ o.answer
    → p.after ≡ o.after
    → Tracks (record { now = p.now; event = p.event; answer = o.answer; after = o.after } ∷ past)
    o.after
    → Tracks (p ∷ past) p.after
done-past p past o answered left all =
    let so : Tracks (record
    { now = p.now; event = p.event; answer = p.answer; after = o.after } ∷ past) o.after =
    subst (λ (r : Result Step StepFault). Tracks (record
    { now = p.now; event = p.event; answer = r; after = o.after } ∷ past) o.after)
    (sym answered) all in
    subst (λ (u : State). Tracks (record
    { now = p.now; event = p.event; answer = p.answer; after = u } ∷ past) u) (sym left) so

came-tracks : (past : List PastEvent) (s : State) → IsHistory past s → Tracks past s
came-tracks [] s came = tracks-first s came
came-tracks (p ∷ past) s came =
    let before : State = came.1.0 in
    let steps = came.1.2 in
    subst (λ (u : State). Tracks (p ∷ past) u) (sym came.0)
    (done-past p past (outcome steps.choice p.now p.event before) steps.answered steps.left
    (tracks-event past before (came-tracks past before came.1.1) p.now steps.choice p.event))

pub step-fresh : (now : ℕ) (event : Event) (old : State) (answer : Result Step StepFault)
    (new : State) → Steps now event old answer new → FreshAt now event old answer new
step-fresh now event old answer new steps past came =
    fresh-if now past old answer (came-tracks past old came)
    (step-commanded now event old answer new steps)

-- ---- what a program reads

module _ (s t : State) (same : IsSameProcess s t) where
  position-read : (k : ℕ) (o : Option Switch)
      → position_leaf s.switches t.rows k o ≡ position_leaf s.switches s.rows k o
  position-read k None = refl
  position-read k (Some switch) =
      (same.positions switch.kind (node_number s.switches switch k)).value

  measure-read : (k : ℕ) (field : MeterField) (o : Option (List ℕ))
      → measure_leaf t.rows k field o ≡ measure_leaf s.rows k field o
  measure-read k field None = refl
  measure-read k field (Some id) = (same.measures k field).value

  point-read : (point : Source) → t.switches ≡ s.switches → t.meters ≡ s.meters
      → point_value t point ≡ point_value s point
  point-read (source.Switch k point) switches meters =
      ap (λ ss. position_value point (position_leaf ss t.rows k (slice_get ss k))) switches
      ∙ ap (position_value point) (position-read k (slice_get s.switches k))
  point-read (source.Input k) switches meters =
      ap (λ vs. Truth (unwrap_or (slice_get vs k) false)) same.inputs
  point-read (source.Meter k field) switches meters =
      ap (λ ms. Long (number_of_leaf (measure_leaf t.rows k field (slice_get ms k)))) meters
      ∙ ap (λ o. Long (number_of_leaf o)) (measure-read k field (slice_get s.meters k))

  points-read : (points : List Source) → t.switches ≡ s.switches → t.meters ≡ s.meters
      → map (point_value t) points ≡ map (point_value s) points
  points-read [] switches meters = refl
  points-read (point ∷ points) switches meters =
      ap₂ (λ (v : Value) (vs : List Value). v ∷ vs) (point-read point switches meters)
      (points-read points switches meters)

pub same-read : (s t : State) → t.switches ≡ s.switches → t.meters ≡ s.meters
    → t.reads ≡ s.reads → IsSameProcess s t → inputs_of t ≡ inputs_of s
same-read s t switches meters reads same =
    ap (map (point_value t)) reads ∙ points-read s t same s.reads switches meters
