-- What each event leaves as it is. A scan that is done aside, an event tells of no steps and leaves
-- the last scan and the interlocking values; and each leaves the program, the switches and how old
-- a scan may be.
use Rattle.std.proofs.Common.{◌≡◌, ℕ, ℤ, ◌≤◌, Bool, true, false, cond, nat_lt, List, [], ◌∷◌, slice_get, Option, Some, None, Result, Ok, Err, ◌⊎◌, inl, inr, refl, ap, sym, subst, ◌∙◌, arith}
use Rattle.std.proofs.lemmas.Bool.Decides.{nat_tests}
use Rattle.bay_base.specs.declared.point.MeterField.{MeterField}
use Rattle.bay_connection.specs.ConnectionStates.{ConnectionState}
use Rattle.bay_nodes.specs.declared.switch.Switch.{Switch}
use Rattle.bay_nodes.specs.Names.{float_names, meter_names}
use Rattle.bay_process.specs.Names.{field_float, field_names}
use Rattle.bay_process.proofs.ModelLemmas.{health-keeps, input-keeps}
use Rattle.bay_process.proofs.ToldLemmas.{Keeps, field-away, float-away, keeps-contact, keeps-doubt, keeps-measure}
use Rattle.bay_tree.specs.Rows.{leaf_named}
use Rattle.bay_base.specs.declared.position.Dbpos.{Dbpos}
use Rattle.bay_device.specs.Device.{State, device_after_bad_measure, device_after_contact, device_after_input, device_after_loss, device_after_measure, device_at, with_health}
use Rattle.bay_device.specs.Outcomes.{Outcome, close_outcome, connection_at, contact_outcome, bad_measure_outcome, event_outcome, input_outcome, last_moment, lost_outcome, measure_outcome, open_outcome, outcome, slot_of, recv_outcome, refusal_outcome, scan_outcome}
use Rattle.bay_device.specs.Steps.{Steps}
use Rattle.bay_device.specs.declared.event.Event.{Event}
use Rattle.bay_device.specs.declared.event.Event.TheVariants.{Open, Recv, Close, Contact, Input, Measure, BadMeasure, Lost, Scan}
use Rattle.bay_device.specs.declared.event.Step.{Step}
use Rattle.bay_device.specs.declared.fault.StepFault.{StepFault}
use Rattle.bay_device.specs.declared.fault.StepFault.TheVariants.{MomentTooLarge, TimeWentBack}
use Rattle.bay_device.proofs.LostLemmas as loss
use Rattle.bay_device.proofs.LostLemmas.{lost-fixed, lost-keeps}
use Rattle.bay_device.proofs.SameLemmas.{Parts, Same, same-event}

-- ---- parts

-- what no event changes
pub record Fixed (s t : State) : Type 0 where
  pub age : t.scan_max_age_ms ≡ s.scan_max_age_ms
  pub image : t.machine.image ≡ s.machine.image
  pub switches : t.switches ≡ s.switches
  pub writes : t.writes ≡ s.writes

-- what a scan alone changes
pub record Kept (s t : State) : Type 0 where
  pub fixed : Fixed s t
  pub scans : t.last_scan ≡ s.last_scan
  pub interlocking : Keeps s.rows t.rows

kept-same : (s t : State) → Same s t → Kept s t
kept-same s t same = record {
  fixed =
      record {
        age = ap (λ (p : Parts). p.age) same;
        image = ap (λ (p : Parts). p.machine.image) same;
        switches = ap (λ (p : Parts). p.switches) same;
        writes = ap (λ (p : Parts). p.writes) same;
      };
  scans = ap (λ (p : Parts). p.scans) same;
  interlocking = λ k x. ap (leaf_named _) (ap (λ (p : Parts). p.rows) same);
}

-- with its health
kept-healthy : (now : ℕ) (s t : State) → Kept s t → Kept s (with_health now t)
kept-healthy now s t kept = record {
  fixed =
      record {
        age = kept.fixed.age;
        image = kept.fixed.image;
        switches = kept.fixed.switches;
        writes = kept.fixed.writes;
      };
  scans = kept.scans;
  interlocking =
      λ k x. health-keeps t.profile t.is_lost now t.rows k x ∙ kept.interlocking k x;
}

-- ---- events

-- how many steps an answer tells of
abbrev pub scan_told : Result Step StepFault → Option ℕ
scan_told (Ok step) = step.scan
scan_told (Err fault) = None

-- no scan is done
abbrev Quiet : State → Outcome → Type 0
Quiet s o = (scan_told o.answer ≡ None) × Kept s o.after

quiet-same : (s : State) (o : Outcome) → scan_told o.answer ≡ None → Same s o.after → Quiet s o
quiet-same s o none same = (none, kept-same s o.after same)

module _ (now : ℕ) (s : State) where
  told-open : (a : ℕ) (o : Option ℕ) (talk : Option ConnectionState)
      → scan_told (open_outcome now a s o talk).answer ≡ None
  told-open a None talk = refl
  told-open a (Some place) (Some talk) = refl
  told-open a (Some place) None = refl

  told-recv : (choice : Option ℕ) (a : ℕ) (octets : List ℕ) (talk : Option ConnectionState)
      → scan_told (recv_outcome choice now a octets s talk).answer ≡ None
  told-recv choice a octets None = refl
  told-recv choice a [] (Some talk) = refl
  told-recv choice a (octet ∷ octets) (Some talk) = refl

  told-close : (a : ℕ) (talk : Option ConnectionState)
      → scan_told (close_outcome now a s talk).answer ≡ None
  told-close a None = refl
  told-close a (Some talk) = refl

  quiet-contact : (k : ℕ) (position : Dbpos) (o : Option Switch)
      → Quiet s (contact_outcome now k position s o)
  quiet-contact k position None =
      quiet-same s (contact_outcome now k position s None) refl refl
  quiet-contact k position (Some switch) = (
    refl,
    kept-healthy now s (device_after_contact now k switch position (device_at now s)) (record {
      fixed = record { age = refl; image = refl; switches = refl; writes = refl };
      scans = refl;
      interlocking = keeps-contact s.switches k switch position now s.rows;
    }),
  )

  quiet-input : (k : ℕ) (value : Bool) (o : Option Bool)
      → Quiet s (input_outcome now k value s o)
  quiet-input k value None = quiet-same s (input_outcome now k value s None) refl refl
  quiet-input k value (Some before) = (
    refl,
    kept-healthy now s (device_after_input now k value before (device_at now s)) (record {
      fixed = record { age = refl; image = refl; switches = refl; writes = refl };
      scans = refl;
      interlocking = input-keeps s.profile s.inputs s.switches k value now s.rows;
    }),
  )

  quiet-measure : (k : ℕ) (field : MeterField) (value : ℤ) (o : Option (List ℕ))
      → Quiet s (measure_outcome now k field value s o)
  quiet-measure k field value None =
      quiet-same s (measure_outcome now k field value s None) refl refl
  quiet-measure k field value (Some id) = (
    refl,
    kept-healthy now s (device_after_measure now k field value (device_at now s)) (record {
      fixed = record { age = refl; image = refl; switches = refl; writes = refl };
      scans = refl;
      interlocking =
          keeps-measure (field_names field (meter_names k)) (field_float field (float_names k)) value
          now s.rows (field-away k field) (float-away k field);
    }),
  )

  quiet-doubt : (k : ℕ) (field : MeterField) (o : Option (List ℕ))
      → Quiet s (bad_measure_outcome now k field s o)
  quiet-doubt k field None = quiet-same s (bad_measure_outcome now k field s None) refl refl
  quiet-doubt k field (Some id) = (
    refl,
    kept-healthy now s (device_after_bad_measure now k field (device_at now s)) (record {
      fixed = record { age = refl; image = refl; switches = refl; writes = refl };
      scans = refl;
      interlocking =
          keeps-doubt (field_names field (meter_names k)) now s.rows (field-away k field);
    }),
  )

  quiet-lost : Quiet s (lost_outcome now s)
  quiet-lost =
      let fixed = lost-fixed now (device_at now s) in (
        refl,
        kept-healthy now s (device_after_loss now (device_at now s)) (record {
          fixed =
              record {
                age = ap (λ (f : loss.Fixed). f.age) fixed;
                image = ap (λ (f : loss.Fixed). f.machine.image) fixed;
                switches = ap (λ (f : loss.Fixed). f.switches) fixed;
                writes = ap (λ (f : loss.Fixed). f.writes) fixed;
              };
          scans = ap (λ (f : loss.Fixed). f.scans) fixed;
          interlocking = lost-keeps now (device_at now s);
        }),
      )

-- A scan is done.
pub record Scanned (now : ℕ) (event : Event) (old : State) (answer : Result Step StepFault)
    (new : State) : Type 0 where
  pub event_is : event ≡ Scan
  pub answered : answer ≡ (scan_outcome now old).answer
  pub left : new ≡ (scan_outcome now old).after

-- An event is a scan that is done, or tells of none and leaves all that only a scan changes.
abbrev pub Turned : ℕ → Event → State → Result Step StepFault → State → Type 0
Turned now event old answer new =
    ((scan_told answer ≡ None) × Kept old new) ⊎ Scanned now event old answer new

turned-event : (choice : Option ℕ) (now : ℕ) (event : Event) (s : State)
    → Turned now event s (event_outcome choice now event s).answer
    (event_outcome choice now event s).after
turned-event choice now (Open a) s =
    inl (quiet-same s (event_outcome choice now (Open a) s)
    (told-open now s a (slot_of a) (connection_at (slot_of a) s))
    (same-event now s choice (Open a) tt))
turned-event choice now (Recv a octets) s =
    inl (quiet-same s (event_outcome choice now (Recv a octets) s)
    (told-recv now s choice a octets.now (connection_at (slot_of a) s))
    (same-event now s choice (Recv a octets) tt))
turned-event choice now (Close a) s =
    inl (quiet-same s (event_outcome choice now (Close a) s)
    (told-close now s a (connection_at (slot_of a) s))
    (same-event now s choice (Close a) tt))
turned-event choice now (Contact k position) s =
    inl (quiet-contact now s k position (slice_get s.switches k))
turned-event choice now (Input k value) s =
    inl (quiet-input now s k value (slice_get s.input_values k))
turned-event choice now (Measure k field value) s =
    inl (quiet-measure now s k field value (slice_get s.meters k))
turned-event choice now (BadMeasure k field) s =
    inl (quiet-doubt now s k field (slice_get s.meters k))
turned-event choice now Lost s = inl (quiet-lost now s)
turned-event choice now Scan s =
    inr (record { event_is = refl; answered = refl; left = refl })

turned-if : (late early : Bool) (choice : Option ℕ) (now : ℕ) (event : Event) (s : State)
    → let o : Outcome = cond late (refusal_outcome MomentTooLarge s)
    (cond early (refusal_outcome TimeWentBack s) (event_outcome choice now event s)) in
    Turned now event s o.answer o.after
turned-if true early choice now event s =
    inl (quiet-same s (refusal_outcome MomentTooLarge s) refl refl)
turned-if false true choice now event s =
    inl (quiet-same s (refusal_outcome TimeWentBack s) refl refl)
turned-if false false choice now event s = turned-event choice now event s

-- a step of a device is a turn of the run that a report keeps
pub turned : (now : ℕ) (event : Event) (old : State) (answer : Result Step StepFault)
    (new : State) → Steps now event old answer new → Turned now event old answer new
turned now event old answer new steps =
    subst (λ (s : State). Turned now event old answer s) (sym steps.left)
    (subst (λ (r : Result Step StepFault). Turned now event old r
    (outcome steps.choice now event old).after) (sym steps.answered)
    (turned-if (nat_lt last_moment now) (nat_lt now old.moment) steps.choice now event old))

pub step-fixed : (now : ℕ) (event : Event) (old : State) (answer : Result Step StepFault)
    (new : State) → Steps now event old answer new → Fixed old new
step-fixed now event old answer new steps =
    elim (turned now event old answer new steps) [
      | inl quiet ↦ quiet.1.fixed
      | inr scan ↦ subst (Fixed old) (sym scan.left)
          (record { age = refl; image = refl; switches = refl; writes = refl })
    ]

-- ---- moments

on-time-if : (late : Bool) (now : ℕ) (rest : Outcome) (s : State) (step : Step)
    → nat_lt last_moment now ≡ late
    → (cond late (refusal_outcome MomentTooLarge s) rest).answer ≡ Ok step → now ≤ last_moment
on-time-if true now rest s step is e = absurd cc
on-time-if false now rest s step is e = grind (arith, nat_tests)

-- An event that is done comes at a moment that is not too large.
pub step-on-time : (now : ℕ) (event : Event) (old : State) (answer : Result Step StepFault)
    (new : State) (step : Step) → Steps now event old answer new → answer ≡ Ok step
    → now ≤ last_moment
step-on-time now event old answer new step steps done =
    on-time-if (nat_lt last_moment now) now _ old step refl (sym steps.answered ∙ done)
