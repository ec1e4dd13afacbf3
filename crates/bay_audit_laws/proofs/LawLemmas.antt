-- A rule that holds, and a release that is harmless, along the events of a device.
use Rattle.std.proofs.Common.{All, ◌≡◌, ◌⊎◌, inl, inr, ℕ, ◌<◌, Bool, true, false, not, ◌&&◌, cond, nat_lt, List, [], ◌∷◌, length, map, slice_get, Option, None, Some, Result, Ok, Err, IfOk, OnOk, refl, ap, ap₂, sym, subst, ◌∙◌, arith}
use Rattle.std.specs.Prelude.{◌||◌, unwrap_or, IsOkAnd, IsSomeAnd}
use Rattle.std.proofs.lemmas.Bool.{and_parts}
use Rattle.std.proofs.lemmas.List.{length-map}
use Rattle.std.proofs.Math.Bool.{and-true}
use Rattle.bay_config.specs.Laws.{IsBay}
use Rattle.bay_config.specs.declared.bay.Bay.{Bay}
use Rattle.bay_base.specs.declared.point.MeterField.{MeterField}
use Rattle.bay_base.specs.declared.point.Source.{Source}
use Rattle.bay_base.specs.declared.point.SwitchPoint.TheVariants.{EnableOpen, EnableClose}
use Rattle.bay_nodes.specs.Names.{meter_names}
use Rattle.bay_nodes.specs.Node.{node_number}
use Rattle.bay_base.specs.declared.switch.Operation.{Operation}
use Rattle.bay_base.specs.declared.switch.Operation.TheVariants as operations
use Rattle.bay_nodes.specs.declared.meter.Meter.{Meter}
use Rattle.bay_nodes.specs.declared.switch.Switch.{Switch}
use Rattle.bay_process.specs.ReportedRows.{HoldsRelease}
use Rattle.bay_process.specs.Values.{is_truth, measure_leaf, number_of_leaf, output_of, position_leaf}
use Rattle.bay_process.specs.Names.{field_names}
use Rattle.bay_process.proofs.ToldLemmas.{Keeps, field-away}
use Rattle.bay_audit_rules.specs.Process.{Process, holds}
use Rattle.bay_audit_rules.specs.declared.rule.Rule.{Rule}
use Rattle.bay_audit_rules.specs.declared.rule.RuleKind.TheVariants.{Never}
use Rattle.bay_mms_services.specs.Controls.{dbpos_of}
use Rattle.bay_mms_services.specs.declared.answer.Command.{Command}
use Rattle.bay_tree.specs.declared.leaf.Leaf.TheVariants as leaf
use Rattle.il_image.specs.Images.{Image}
use Rattle.il_image.specs.declared.timer.TimerState.{TimerState}
use Rattle.il_image.specs.declared.value.Value.{Value}
use Rattle.il_range.specs.Predictions.{IsReached, First, Next, ScanLeaves}
use Rattle.il_scan.specs.Scans.{MachineData, outputs_of}
use Rattle.bay_device.specs.Commands.{AreCommanded, IsReleasedAt}
use Rattle.bay_device.specs.Device.{State, after_scan, device_at, inputs_of, is_recent}
use Rattle.bay_device.specs.Load.{initial_device}
use Rattle.bay_device.specs.Meaning.{Halts, HaltsAt}
use Rattle.bay_device.specs.Outcomes.{event_outcome, last_moment, refusal_outcome}
use Rattle.bay_device.specs.Steps.{EachStep, Steps}
use Rattle.bay_device.specs.declared.event.Event.{Event}
use Rattle.bay_device.specs.declared.event.Event.TheVariants.{Open, Recv, Close, Contact, Input, Measure, BadMeasure, Lost, Scan}
use Rattle.bay_device.specs.declared.event.Step.{Step}
use Rattle.bay_device.specs.declared.fault.StepFault.{StepFault}
use Rattle.bay_device.specs.declared.fault.StepFault.TheVariants.{MomentTooLarge, TimeWentBack}
use Rattle.bay_device.proofs.CommandLemmas.{step-commanded}
use Rattle.bay_audit.specs.Process.{IsProcess, process_value}
use Rattle.bay_audit.specs.Rules.{BoundProgram, ReleaseIs, RuleHolds, is_obeyed, program_of, releases, releasing_point}
use Rattle.bay_audit_hazards.specs.Judged.{is_hazard_of}
use Rattle.bay_audit_laws.specs.Laws.{AreOfTypes, CommandsAreHarmless, CommandsAreHarmlessAt, CommandsObey, IsOfType, CommandsObeyAt, IsAllowed, IsOutside, RowsObey, ScanObeysAt, ScansObey, is_released, process_of}
use Rattle.bay_audit_laws.proofs.DeviceLemmas.{Quiet, quiet-event}
use Rattle.bay_audit_laws.proofs.LoadLemmas.{first-both, first-fits}
use Rattle.bay_audit_laws.proofs.MeasureLemmas.{AllFit, Fits, leaf-number}
use Rattle.bay_audit_laws.proofs.ProcessLemmas.{inputs-read, process-alike, scan-alike}
use Rattle.bay_audit_laws.proofs.RowLemmas.{away-outputs, AllBoth, AreBoth, outputs-told, told-both, told_by}

-- ---- releases

own-truth : (b : Bool) → is_truth true (Some (leaf.Truth b)) ≡ b
own-truth true = refl
own-truth false = refl

-- the value that a row tells of a direction, where both are told
pub released-told : (s : State) (writes : List Source) (outputs : List Value) (k : ℕ)
    (operation : Operation) → HoldsRelease s.rows k (told_by writes outputs k)
    → is_released s k operation ≡ output_of k (releasing_point operation) writes outputs
released-told s writes outputs k operations.Close told =
    ap (is_truth true) told.closing.value_is ∙ own-truth (output_of k EnableClose writes outputs)
released-told s writes outputs k operations.Open told =
    ap (is_truth true) told.opening.value_is ∙ own-truth (output_of k EnableOpen writes outputs)

-- ---- what an event comes to

-- An event is refused and changes nothing, or it is no scan and quiet, or a scan that is done.
abbrev pub Turned : ℕ → Event → State → Result Step StepFault → State → Type 0
Turned now event s answer new =
    ((fault : StepFault) × (answer ≡ Err fault) × (new ≡ s))
    ⊎ (((event ≡ Scan → ⊥) × Quiet s new)
    ⊎ ((event ≡ Scan) × (new ≡ after_scan now (device_at now s))
    × IsOkAnd answer (λ step. IsSomeAnd step.scan (λ n. Halts now s n new))))

-- an event that its moment does not refuse
turned-event : (choice : Option ℕ) (now : ℕ) (event : Event) (s : State)
    (answer : Result Step StepFault) (new : State) → IsOfType event
    → new ≡ (event_outcome choice now event s).after
    → (event ≡ Scan
    → IsOkAnd answer (λ step. IsSomeAnd step.scan (λ n. Halts now s n new)))
    → Turned now event s answer new
turned-event choice now Scan s answer new typed left halts = inr (inr (refl, left, halts refl))
turned-event choice now (Open a) s answer new typed left halts =
    inr (inl (
      λ is. cc,
      subst (Quiet s) (sym left) (quiet-event choice now (Open a) s typed tt),
    ))
turned-event choice now (Recv a octets) s answer new typed left halts =
    inr (inl (
      λ is. cc,
      subst (Quiet s) (sym left) (quiet-event choice now (Recv a octets) s typed tt),
    ))
turned-event choice now (Close a) s answer new typed left halts =
    inr (inl (
      λ is. cc,
      subst (Quiet s) (sym left) (quiet-event choice now (Close a) s typed tt),
    ))
turned-event choice now (Contact k position) s answer new typed left halts =
    inr (inl (
      λ is. cc,
      subst (Quiet s) (sym left) (quiet-event choice now (Contact k position) s typed tt),
    ))
turned-event choice now (Input k value) s answer new typed left halts =
    inr (inl (
      λ is. cc,
      subst (Quiet s) (sym left) (quiet-event choice now (Input k value) s typed tt),
    ))
turned-event choice now (Measure k field value) s answer new typed left halts =
    inr (inl (
      λ is. cc,
      subst (Quiet s) (sym left) (quiet-event choice now (Measure k field value) s typed tt),
    ))
turned-event choice now (BadMeasure k field) s answer new typed left halts =
    inr (inl (
      λ is. cc,
      subst (Quiet s) (sym left) (quiet-event choice now (BadMeasure k field) s typed tt),
    ))
turned-event choice now Lost s answer new typed left halts =
    inr (inl (
      λ is. cc,
      subst (Quiet s) (sym left) (quiet-event choice now Lost s typed tt),
    ))

turned-if : (b c : Bool) (choice : Option ℕ) (now : ℕ) (event : Event) (s : State)
    (answer : Result Step StepFault) (new : State) → nat_lt last_moment now ≡ b
    → nat_lt now s.moment ≡ c → IsOfType event
    → answer ≡ (cond b (refusal_outcome MomentTooLarge s)
    (cond c (refusal_outcome TimeWentBack s) (event_outcome choice now event s))).answer
    → new ≡ (cond b (refusal_outcome MomentTooLarge s)
    (cond c (refusal_outcome TimeWentBack s) (event_outcome choice now event s))).after
    → HaltsAt now event s answer new → Turned now event s answer new
turned-if true c choice now event s answer new late early typed answered left halts =
    inl (MomentTooLarge, answered, left)
turned-if false true choice now event s answer new late early typed answered left halts =
    inl (TimeWentBack, answered, left)
turned-if false false choice now event s answer new late early typed answered left halts =
    turned-event choice now event s answer new typed left
    (λ is. halts is (ap₂ (λ x y. x || y) late early))

-- a step of a device is a turn of the audited run
pub turned : (now : ℕ) (event : Event) (s : State) (answer : Result Step StepFault) (new : State)
    → IsOfType event → Steps now event s answer new → HaltsAt now event s answer new
    → Turned now event s answer new
turned now event s answer new typed steps halts =
    turned-if (nat_lt last_moment now) (nat_lt now s.moment) steps.choice now event s answer new
    refl
    refl typed steps.answered steps.left halts

some-of : (P : ℕ → Type 0) (o : Option ℕ) → IsSomeAnd o P → (n : ℕ) × P n
some-of P (Some n) h = (n, h)
some-of P None h = absurd h

pub halts-of : (now : ℕ) (s new : State) (answer : Result Step StepFault)
    → IsOkAnd answer (λ step. IsSomeAnd step.scan (λ n. Halts now s n new))
    → (n : ℕ) × Halts now s n new
halts-of now s new (Ok step) h = some-of (λ n. Halts now s n new) step.scan h
halts-of now s new (Err fault) h = absurd h

-- ---- what is kept along the events

-- The device is as a scan of its program left it, from a state that the program can reach and with
-- the process that the device has: each interlocking value is the release of this scan.
pub record IsScanned (bay : Bay) (image : Image) (s : State) : Type 0 where
  pub machine : MachineData
  pub now : ℕ
  pub slots : List Value
  pub timers : List TimerState
  pub image_is : machine.image ≡ image
  pub reached : IsReached machine
  pub leaves : ScanLeaves machine (map (process_value (process_of s)) (program_of bay image).reads)
      now
      slots timers
  pub released : (k : ℕ) (operation : Operation) → k < length bay.switches
      → is_released s k operation ≡ releases (program_of bay image) k operation slots

-- A device has a bay and a program on it, is one that scans reach, and has rows for the
-- interlocking values; where its last scan is not stale, it is as that scan left it.
pub record Standing (bay : Bay) (image : Image) (s : State) : Type 0 where
  pub switches : s.switches ≡ bay.switches
  pub reads : s.reads ≡ (program_of bay image).reads
  pub writes : s.writes ≡ (program_of bay image).writes
  pub image_is : s.machine.image ≡ image
  pub reached : IsReached s.machine
  pub both : AllBoth s.rows (length bay.switches)
  pub meters : s.meters ≡ map (λ m. m.id) bay.meters
  pub fits : AllFit (length bay.meters) s.rows
  pub scanned : (m : ℕ) → s.last_scan ≡ Some m → s.is_stale ≡ false → IsScanned bay image s

-- its process is one of 32 bits
pub process-so : (bay : Bay) (image : Image) (s : State) → Standing bay image s
    → IsProcess (process_of s)
process-so bay image s o =
    let fits : AllFit (length s.meters) s.rows =
    subst (λ n. AllFit n s.rows)
    (sym (ap length o.meters ∙ length-map bay.meters (λ (m : Meter). m.id))) o.fits in
    record {
      least = λ k field. (leaf-number s.meters s.rows fits k field (slice_get s.meters k)
          refl).least;
      greatest = λ k field.
          (leaf-number s.meters s.rows fits k field (slice_get s.meters k) refl).greatest;
    }

-- ---- no scan

pub process-same : (s t : State) → Quiet s t → t.is_stale ≡ false → process_of t ≡ process_of s
process-same s t q fresh =
    process-alike (process_of t) (process_of s)
    (λ k. ap (λ ss. dbpos_of (position_leaf ss t.rows k (slice_get ss k))) q.switches
    ∙ ap dbpos_of (position-same k (slice_get s.switches k)))
    (λ k. ap (λ vs. unwrap_or (slice_get vs k) false) (q.inputs fresh))
    (λ k field. ap (λ ms. number_of_leaf (measure_leaf t.rows k field (slice_get ms k))) q.meters
    ∙ ap number_of_leaf (measure-same k field (slice_get s.meters k)))
  where
    position-same : (k : ℕ) (o : Option Switch)
        → position_leaf s.switches t.rows k o ≡ position_leaf s.switches s.rows k o
    position-same k None = refl
    position-same k (Some switch) =
        ((q.rows fresh).positions switch.kind (node_number s.switches switch k)).value

    measure-same : (k : ℕ) (field : MeterField) (o : Option (List ℕ))
        → measure_leaf t.rows k field o ≡ measure_leaf s.rows k field o
    measure-same k field None = refl
    measure-same k field (Some id) = ((q.rows fresh).measures k field).value

pub released-same : (s t : State) (k : ℕ) (operation : Operation) → Quiet s t
    → is_released t k operation ≡ is_released s k operation
released-same s t k operations.Close q = ap (is_truth true) (q.keeps k _)
released-same s t k operations.Open q = ap (is_truth true) (q.keeps k _)

both-kept : (s t : State) (count : ℕ) → Keeps s.rows t.rows → AllBoth s.rows count
    → AllBoth t.rows count
both-kept s t count keeps all k lt =
    let own : AreBoth s.rows k = all k lt in
    record {
      opening = record {
        value_there = λ none. own.opening.value_there (sym (keeps k _) ∙ none);
        quality_there = λ none. own.opening.quality_there (sym (keeps k _) ∙ none);
      };
      closing = record {
        value_there = λ none. own.closing.value_there (sym (keeps k _) ∙ none);
        quality_there = λ none. own.closing.quality_there (sym (keeps k _) ∙ none);
      };
    }

module _ (bay : Bay) (image : Image) where
  scanned-quiet : (s t : State) → Quiet s t → t.is_stale ≡ false → IsScanned bay image s
      → IsScanned bay image t
  scanned-quiet s t q fresh is = record {
    machine = is.machine;
    now = is.now;
    slots = is.slots;
    timers = is.timers;
    image_is = is.image_is;
    reached = is.reached;
    leaves = subst (λ p. ScanLeaves is.machine (map (process_value p) (program_of bay image).reads)
        is.now is.slots is.timers) (sym (process-same s t q fresh)) is.leaves;
    released = λ k operation lt. released-same s t k operation q ∙ is.released k operation lt;
  }

  standing-quiet : (s t : State) → Standing bay image s → Quiet s t → Standing bay image t
  standing-quiet s t o q = record {
    switches = q.switches ∙ o.switches;
    reads = q.reads ∙ o.reads;
    writes = q.writes ∙ o.writes;
    image_is = ap (λ (h : MachineData). h.image) q.machine ∙ o.image_is;
    reached = subst IsReached (sym q.machine) o.reached;
    both = both-kept s t (length bay.switches) q.keeps o.both;
    meters = q.meters ∙ o.meters;
    fits = q.fits (length bay.meters) o.fits;
    scanned = λ m scans fresh.
        scanned-quiet s t q fresh (o.scanned m (sym q.scans ∙ scans) (q.stale fresh));
  }

module _ (bay : Bay) (image : Image) (is_bay : IsBay bay) where
  -- ---- a scan

  module _ (now : ℕ) (s : State) (o : Standing bay image s) (steps : ℕ)
      (halts : Halts now s steps (after_scan now (device_at now s))) where
    abbrev scanned : State
    scanned = after_scan now (device_at now s)

    abbrev outputs : List Value
    outputs = outputs_of s.machine.image.points scanned.machine.slots

    pub leaves : ScanLeaves s.machine (inputs_of s) now scanned.machine.slots scanned.machine.timers
    leaves = record { most = length s.machine.image.code; steps = steps; halts = halts.halts }

    scanned-told : (k : ℕ) → k < length bay.switches
        → HoldsRelease scanned.rows k (told_by s.writes outputs k)
    scanned-told k lt =
        let sized : length s.switches ≡ length bay.switches = ap length o.switches in
        outputs-told s.switches s.writes outputs now (length bay.switches) is_bay.few_switches 0
        s.switches s.rows o.both (omega (arith, sized)) k lt
        (λ below. absurd (omega (arith, below)))
        (omega (arith, lt, sized))

    -- the process is the same after the scan
    pub scanned-process : process_of scanned ≡ process_of s
    scanned-process = scan-alike s scanned s.writes outputs now refl refl refl refl

    -- the run is one from what the process reports
    pub read : ScanLeaves s.machine
        (map (process_value (process_of s)) (program_of bay image).reads)
        now scanned.machine.slots scanned.machine.timers
    read =
        subst (λ inputs. ScanLeaves s.machine inputs now scanned.machine.slots
        scanned.machine.timers)
        (inputs-read s (program_of bay image).reads o.reads) leaves

    -- the interlocking values tell what the slots release
    pub scanned-releases : (k : ℕ) (operation : Operation) → k < length bay.switches
        → is_released scanned k operation
        ≡ releases (program_of bay image) k operation scanned.machine.slots
    scanned-releases k operation lt =
        released-told scanned s.writes outputs k operation (scanned-told k lt)
        ∙ ap₂ (λ w i. output_of k (releasing_point operation) w
        (outputs_of i.points scanned.machine.slots)) o.writes o.image_is

    is-scanned : IsScanned bay image scanned
    is-scanned = record {
      machine = s.machine;
      now = now;
      slots = scanned.machine.slots;
      timers = scanned.machine.timers;
      image_is = o.image_is;
      reached = o.reached;
      leaves = subst (λ p. ScanLeaves s.machine (map (process_value p) (program_of bay image).reads)
          now scanned.machine.slots scanned.machine.timers) (sym scanned-process) read;
      released = scanned-releases;
    }

    standing-scanned : Standing bay image scanned
    standing-scanned = record {
      switches = o.switches;
      reads = o.reads;
      writes = o.writes;
      image_is = o.image_is;
      reached = Next s.machine (inputs_of s) now scanned.machine.slots scanned.machine.timers
          o.reached leaves;
      both = λ k lt. told-both scanned.rows k (told_by s.writes outputs k) (scanned-told k lt);
      meters = o.meters;
      fits = λ k field lt. subst Fits
          (sym (away-outputs (field_names field (meter_names k)).value
          (field-away k field).value_away
          s.switches s.writes outputs now 0 s.switches s.rows)) (o.fits k field lt);
      scanned = λ m scans fresh. is-scanned;
    }

  -- ---- a step

  -- what an event leaves: after a scan that was accepted, the device is as this scan left it
  pub record Led (event : Event) (answer : Result Step StepFault) (new : State) : Type 0 where
    pub goes_on : Standing bay image new
    pub scanned : event ≡ Scan → OnOk answer (IsScanned bay image new)

  on-ok : (P : Type 0) (answer : Result Step StepFault) → P → OnOk answer P
  on-ok P (Ok step) p = p
  on-ok P (Err fault) p = tt

  led-scan : (now : ℕ) (s : State) (answer : Result Step StepFault) (new : State)
      → Standing bay image s → new ≡ after_scan now (device_at now s)
      → (n : ℕ) × Halts now s n new → Led Scan answer new
  led-scan now s answer new o left w =
      let halts : Halts now s w.0 (after_scan now (device_at now s)) =
      subst (Halts now s w.0) left w.1 in
      subst (Led Scan answer) (sym left) (record {
        goes_on = standing-scanned now s o w.0 halts;
        scanned = λ is. on-ok _ answer (is-scanned now s o w.0 halts);
      })

  pub led-step : (now : ℕ) (event : Event) (s : State) (answer : Result Step StepFault)
      (new : State) → Standing bay image s → Turned now event s answer new → Led event answer new
  led-step now event s answer new o t = elim t [
    | inl r ↦ record {
      goes_on = subst (Standing bay image) (sym r.2) o;
      scanned = λ is. subst (λ a. OnOk a (IsScanned bay image new)) (sym r.1) tt;
    }
    | inr more ↦ elim more [
      | inl quiet ↦ record {
        goes_on = standing-quiet bay image s new o quiet.1;
        scanned = λ is. absurd (quiet.0 is);
      }
      | inr scan ↦
          subst (λ (e : Event). Led e answer new) (sym scan.0)
          (led-scan now s answer new o scan.1 (halts-of now s new answer scan.2))
    ]
  ]

  -- ---- runs

  -- what each event of a standing device does is done in each run
  each-step : (Law : ℕ → Event → State → Result Step StepFault → State → Type 0)
      → ((now : ℕ) (event : Event) (s : State) (answer : Result Step StepFault) (new : State)
      → Standing bay image s → Steps now event s answer new → Led event answer new
      → Law now event s answer new)
      → (events : List (ℕ × Event)) (s : State) (answers : List (Result Step StepFault))
      (last : State) → AreOfTypes events → Standing bay image s
      → EachStep HaltsAt events s answers last → EachStep Law events s answers last
  each-step Law does [] s [] last typed o each = each
  each-step Law does [] s (answer ∷ answers) last typed o each = absurd each
  each-step Law does (e ∷ es) s [] last typed o each = absurd each
  each-step Law does (e ∷ es) s (answer ∷ answers) last typed o each =
      let led = led-step e.0 e.1 s answer each.0 o
      (turned e.0 e.1 s answer each.0 typed.0 each.1 each.2) in (
        each.0,
        each.1,
        does e.0 e.1 s answer each.0 o each.1 led,
        each-step Law does es each.0 answers last typed.1 led.goes_on each.3,
      )

  -- ---- load

  pub standing-first : Standing bay image (initial_device bay image)
  standing-first = record {
    switches = refl;
    reads = refl;
    writes = refl;
    image_is = refl;
    reached = First image;
    both = λ k lt. first-both bay is_bay k lt;
    meters = refl;
    fits = first-fits bay is_bay;
    scanned = λ m scans fresh. absurd cc;
  }

-- ---- what a program gives

-- While the process is in a set, the switch is not released, in any state that the program can
-- reach.
abbrev pub IsRefusedWhere : BoundProgram → (Process → Bool) → ℕ → Operation → Type 0
IsRefusedWhere g set k operation =
    (p : Process) → IsProcess p → set p ≡ true → ReleaseIs false g k operation p

-- a rule that holds and forbids is such a set
pub rule-refuses : (g : BoundProgram) (rule : Rule) → RuleHolds g rule → rule.kind ≡ Never
    → IsRefusedWhere g (holds rule.when) rule.switch rule.operation
rule-refuses g rule holds_so never p is asked machine now slots timers image reached leaves =
    must-not (releases g rule.switch rule.operation slots)
    (sym (ap₂ (λ kind b. is_obeyed kind (b && true)
    (releases g rule.switch rule.operation slots)) never asked)
    ∙ holds_so p is 0 machine now slots timers image reached tt leaves)
  where
    must-not : (b : Bool) → not b ≡ true → b ≡ false
    must-not true h = absurd cc
    must-not false h = refl

pub recent-at : (now age : ℕ) (o : Option ℕ) → is_recent now age o ≡ true
    → (m : ℕ) × (o ≡ Some m)
recent-at now age None h = absurd cc
recent-at now age (Some m) h = (m, refl)

pub not-true : (b : Bool) → not b ≡ true → b ≡ false
not-true true h = absurd cc
not-true false h = refl

not-yes : (b : Bool) → (b ≡ true → ⊥) → b ≡ false
not-yes true h = absurd (h refl)
not-yes false h = refl

module _ (bay : Bay) (image : Image) where
  -- the interlocking values of a scan obey a rule that holds
  scanned-obeys : (rule : Rule) → rule.switch < length bay.switches
      → RuleHolds (program_of bay image) rule → (s : State) → IsProcess (process_of s)
      → IsScanned bay image s → RowsObey rule s
  scanned-obeys rule there holds_so s is scan =
      ap₂ (is_obeyed rule.kind) (sym (and-true (holds rule.when (process_of s))))
      (scan.released rule.switch rule.operation there)
      ∙ holds_so (process_of s) is 0 scan.machine scan.now scan.slots scan.timers scan.image_is
      scan.reached tt scan.leaves

  ok-obeys : (rule : Rule) → rule.switch < length bay.switches
      → RuleHolds (program_of bay image) rule → (answer : Result Step StepFault) (s : State)
      → IsProcess (process_of s) → OnOk answer (IsScanned bay image s)
      → OnOk answer (RowsObey rule s)
  ok-obeys rule there holds_so (Ok step) s is scan = scanned-obeys rule there holds_so s is scan
  ok-obeys rule there holds_so (Err fault) s is scan = tt

  -- so does each scan
  pub scan-obeys : (rule : Rule) → rule.switch < length bay.switches
      → RuleHolds (program_of bay image) rule → (is_bay : IsBay bay) (now : ℕ) (event : Event)
      (old : State) (answer : Result Step StepFault) (new : State)
      → Led bay image is_bay event answer new → ScanObeysAt rule now event old answer new
  scan-obeys rule there holds_so is_bay now event old answer new led is =
      ok-obeys rule there holds_so answer new (process-so bay image new led.goes_on)
      (led.scanned is)

  -- ---- commands

  -- a command that is released is issued only while its release is not refused
  pub outside : (set : Process → Bool) (k : ℕ) (operation : Operation)
      → k < length bay.switches → IsRefusedWhere (program_of bay image) set k operation
      → (now : ℕ) (s : State) (command : Command) → Standing bay image s
      → IsReleasedAt now s command → IsOutside set k operation s command
  outside set k operation there refused now s command o released at on =
      let parts =
      and_parts (is_recent now s.scan_max_age_ms s.last_scan) (not s.is_stale) released.fresh in
      let last = recent-at now s.scan_max_age_ms s.last_scan parts.0 in
      let scan = o.scanned last.0 last.1 (not-true s.is_stale parts.1) in
      not-yes (set (process_of s)) (λ in_set.
      let none : is_released s k operation ≡ false =
      scan.released k operation there
      ∙ refused (process_of s) (process-so bay image s o) in_set scan.machine scan.now scan.slots
      scan.timers scan.image_is scan.reached scan.leaves in
      let given : is_released s k operation ≡ true =
      ap₂ (is_released s) (sym at) (sym on) ∙ released.enabled in
      let no : true ≡ false = sym given ∙ none in
      absurd cc)

  -- so are all commands of an event
  pub commands-outside : (Is : State → Command → Type 0)
      → ((now : ℕ) (s : State) (command : Command) → Standing bay image s
      → IsReleasedAt now s command → Is s command)
      → (now : ℕ) (s : State) (answer : Result Step StepFault) → Standing bay image s
      → IfOk answer (AreCommanded now s) → IfOk answer (λ step. All (Is s) step.commands)
  commands-outside Is is now s (Ok step) o commanded =
      λ k d lt. is now s _ o (commanded.released k d lt)
  commands-outside Is is now s (Err fault) o commanded = tt

  -- a rule that holds allows each command that is released
  pub allowed : (rule : Rule) → rule.switch < length bay.switches
      → RuleHolds (program_of bay image) rule → (now : ℕ) (s : State) (command : Command)
      → Standing bay image s → IsReleasedAt now s command → IsAllowed rule s command
  allowed rule there holds_so now s command o released never =
      outside (holds rule.when) rule.switch rule.operation there
      (rule-refuses (program_of bay image) rule holds_so never) now s command o released

-- ---- the laws

pub scans-obey : ScansObey
scans-obey bay image rule is_bay there holds_so events answers last typed each =
    each-step bay image is_bay (ScanObeysAt rule)
    (λ now event s answer new o steps led.
    scan-obeys bay image rule there holds_so is_bay now event s answer new led) events
    (initial_device bay image) answers last typed (standing-first bay image is_bay) each

pub commands-obey-all : CommandsObey
commands-obey-all bay image rule is_bay there holds_so events answers last typed each =
    each-step bay image is_bay (CommandsObeyAt rule)
    (λ now event s answer new o steps led.
    commands-outside bay image (IsAllowed rule) (allowed bay image rule there holds_so) now s
    answer o (step-commanded now event s answer new steps)) events (initial_device bay image)
    answers last typed (standing-first bay image is_bay) each

pub commands-are-harmless : CommandsAreHarmless
commands-are-harmless bay image net k operation is_bay there harmless events answers last typed
    each =
    each-step bay image is_bay (CommandsAreHarmlessAt net k operation)
    (λ now event s answer new o steps led.
    commands-outside bay image (IsOutside (is_hazard_of net k operation) k operation)
    (outside bay image (is_hazard_of net k operation) k operation there harmless) now s answer o
    (step-commanded now event s answer new steps)) events (initial_device bay image) answers last
    typed (standing-first bay image is_bay) each
