-- A rule that requires a release after a condition has held for a time, along the events of a
-- device.
use Rattle.std.proofs.Common.{◌≡◌, inl, inr, ℕ, zero, suc, ◌-◌, ◌<◌, ◌≤◌, Bool, true, false, not, ◌&&◌, List, [], ◌∷◌, ◌++◌, length, Some, Result, Ok, Err, refl, ap, sym, subst, ◌∙◌, arith}
use Rattle.std.specs.Prelude.{IsOkAnd, IsSomeAnd, OnOk, is_some}
use Rattle.bay_base.specs.declared.types.TimerKind.{TimerKind}
use Rattle.bay_base.specs.declared.types.TimerKind.TheVariants.{OnDelay, OffDelay}
use Rattle.bay_config.specs.Laws.{IsBay}
use Rattle.bay_config.specs.declared.bay.Bay.{Bay}
use Rattle.bay_audit_rules.specs.Process.{Process, after_items, holds, negate_top, top}
use Rattle.bay_audit_rules.specs.declared.rule.ConditionItem.{ConditionItem}
use Rattle.bay_audit_rules.specs.declared.rule.ConditionItem.TheVariants as items
use Rattle.bay_audit_rules.specs.declared.rule.Rule.{Rule}
use Rattle.bay_audit_rules.specs.declared.rule.RuleKind.TheVariants.{Always}
use Rattle.bay_audit_rules.specs.declared.rule.Timing.{Timing}
use Rattle.il_image.specs.Images.{Image}
use Rattle.il_image.specs.declared.timer.TimerPhase.{TimerPhase}
use Rattle.il_image.specs.declared.timer.TimerPhase.TheVariants.{Idle, Held, Since}
use Rattle.il_image.specs.declared.timer.TimerState.{TimerState}
use Rattle.il_range.specs.Predictions.{AreDelays, delay_start, delay_start_at}
use Rattle.il_range.specs.Ranges.{delay_onset, delay_onset_at, is_by}
use Rattle.il_range.specs.declared.delay.KnownDelay.TheVariants.{AtLeast}
use Rattle.il_range.proofs.StartLemmas.{delays-continue}
use Rattle.bay_device.specs.Device.{State, after_scan, device_at, inputs_of}
use Rattle.bay_device.specs.Load.{initial_device}
use Rattle.bay_device.specs.Meaning.{Halts, HaltsAt}
use Rattle.bay_device.specs.Steps.{EachStep, Steps}
use Rattle.bay_device.specs.declared.event.Event.{Event}
use Rattle.bay_device.specs.declared.event.Event.TheVariants.{Scan}
use Rattle.bay_device.specs.declared.event.Step.{Step}
use Rattle.bay_device.specs.declared.fault.StepFault.{StepFault}
use Rattle.bay_audit.specs.Rules.{IsDueByTimer, IsMet, is_obeyed, limit_of, program_of, releases, sufficient_demand}
use Rattle.bay_audit_laws.specs.Laws.{AreOfTypes, EachEvent, HasHeld, ScanIsDueAt, ScanReleasesAt, ScansAreDue, ScansRelease, is_released, process_of, scans_after}
use Rattle.bay_audit_laws.proofs.DeviceLemmas.{Quiet}
use Rattle.bay_audit_laws.proofs.LawLemmas.{Standing, Turned, halts-of, leaves, led-step, process-so, read, scanned-process, scanned-releases, standing-first, turned}
use Rattle.bay_audit_laws.proofs.MomentLemmas.{accepted-on, moment-on}
use Rattle.bay_audit_laws.proofs.WaitLemmas.{RunsFrom, first-began, scans-refused, scans-same}

-- ---- conditions and demands

items-behind : (p : Process) (is others : List ConditionItem) (stack : List Bool)
    → after_items p (is ++ others) stack ≡ after_items p others (after_items p is stack)
items-behind p [] others stack = refl
items-behind p (i ∷ is) others stack = items-behind p is others _

top-not : (stack : List Bool) → top stack ≡ true → top (negate_top stack) ≡ false
top-not [] e = absurd cc
top-not (a ∷ stack) e = ap not e

-- a condition that is TRUE has a negation that is FALSE
not-held : (p : Process) (is : List ConditionItem) → holds is p ≡ true
    → holds (is ++ items.Not ∷ []) p ≡ false
not-held p is e = ap top (items-behind p is (items.Not ∷ []) []) ∙ top-not (after_items p is []) e

must-so : (a b r : Bool) → is_obeyed Always (a && not b) r ≡ true → a ≡ true → b ≡ false → r ≡ true
must-so true false r h a b = h
must-so true true r h a b = absurd cc
must-so false b r h a e = absurd cc

-- ---- timers

-- a delay that began by the mark is within its limit
by-limit : (mark now least n : ℕ) (timers : List TimerState)
    → is_by mark (delay_onset_at n timers) ≡ true → least ≤ now - mark
    → AreDelays mark now timers (limit_of n (AtLeast least))
by-limit mark now least zero [] by far = absurd cc
by-limit mark now least (suc n) [] by far = absurd cc
by-limit mark now least zero (t ∷ timers) by far = ((by, far), tt)
by-limit mark now least (suc n) (t ∷ timers) by far = (tt, by-limit mark now least n timers by far)

onset-past : (m : ℕ) (kind : TimerKind) (phase : TimerPhase)
    → ((start : ℕ) → delay_start phase ≡ Some start → start ≤ m)
    → is_some (delay_onset kind phase) ≡ true → is_by m (delay_onset kind phase) ≡ true
onset-past m kind (Since start) past begun = let le = past start refl in grind (arith, le)
onset-past m OnDelay Idle past begun = absurd cc
onset-past m OffDelay Idle past begun = let least : 0 ≤ m = omega arith in grind (arith, least)
onset-past m kind Held past begun = absurd cc

-- a delay that has begun did so by a moment by which each delay that runs began
begun-by : (m n : ℕ) (timers : List TimerState)
    → ((start : ℕ) → delay_start_at n timers ≡ Some start → start ≤ m)
    → is_some (delay_onset_at n timers) ≡ true → is_by m (delay_onset_at n timers) ≡ true
begun-by m zero [] past begun = absurd cc
begun-by m (suc n) [] past begun = absurd cc
begun-by m zero (t ∷ timers) past begun = onset-past m t.kind t.phase past begun
begun-by m (suc n) (t ∷ timers) past begun = begun-by m n timers past begun

-- ---- what has held

-- a scan from which on the condition has held
record Runs (time now : ℕ) (scans : List (ℕ × Bool)) : Type 0 where
  start : ℕ
  far : time ≤ now - start
  runs : RunsFrom start scans

runs-of : (time now : ℕ) (scans : List (ℕ × Bool)) → HasHeld time now scans → Runs time now scans
runs-of time now [] held = absurd held
runs-of time now (scan ∷ scans) held = elim held.1 [
  | inl far ↦ record { start = scan.0; far = far; runs = (held.0, inl refl) }
  | inr earlier ↦
      (let r = runs-of time now scans earlier in
      record { start = r.start; far = r.far; runs = (held.0, inr r.runs) })
]

on-ok : (P : Type 0) (answer : Result Step StepFault) → P → OnOk answer P
on-ok P (Ok step) p = p
on-ok P (Err fault) p = tt

refused-ok : (P : Type 0) (answer : Result Step StepFault) (fault : StepFault)
    → answer ≡ Err fault → OnOk answer P
refused-ok P (Ok step) fault e = absurd cc
refused-ok P (Err other) fault e = tt

module _ (bay : Bay) (image : Image) (rule : Rule) (timing : Timing) (is_bay : IsBay bay)
    (there : rule.switch < length bay.switches) where
  -- ---- a release by the condition alone

  module _ (met : IsMet (program_of bay image) (sufficient_demand rule timing.condition)) where
    scan-releases : (now : ℕ) (s : State) (o : Standing bay image s) (steps : ℕ)
        → Halts now s steps (after_scan now (device_at now s))
        → holds rule.when (process_of (after_scan now (device_at now s))) ≡ true
        → holds timing.condition (process_of (after_scan now (device_at now s))) ≡ true
        → is_released (after_scan now (device_at now s)) rule.switch rule.operation ≡ true
    scan-releases now s o steps halts asked held =
        let same = scanned-process bay image is_bay now s o steps halts in
        let scanned = after_scan now (device_at now s) in
        scanned-releases bay image is_bay now s o steps halts rule.switch rule.operation there
        ∙ must-so (holds rule.when (process_of s))
        (holds (timing.condition ++ items.Not ∷ []) (process_of s))
        (releases (program_of bay image) rule.switch rule.operation scanned.machine.slots)
        (met (process_of s) (process-so bay image s o) 0
        s.machine now scanned.machine.slots scanned.machine.timers o.image_is o.reached tt
        (read bay image is_bay now s o steps halts))
        (ap (holds rule.when) (sym same) ∙ asked)
        (not-held (process_of s) timing.condition (ap (holds timing.condition) (sym same) ∙ held))

    released-step : (scans : List (ℕ × Bool)) (now : ℕ) (event : Event) (s : State)
        (answer : Result Step StepFault) (new : State) → Standing bay image s
        → Turned now event s answer new
        → ScanReleasesAt rule timing scans now event s answer new
    released-step scans now event s answer new o t is = elim t [
      | inl r ↦ refused-ok _ answer r.0 r.1
      | inr more ↦ elim more [
        | inl quiet ↦ absurd (quiet.0 is)
        | inr scan ↦
            (let halts = halts-of now s new answer scan.2 in
            on-ok _ answer (λ asked held.
            subst (λ (t : State). is_released t rule.switch rule.operation ≡ true) (sym scan.1)
            (scan-releases now s o halts.0 (subst (Halts now s halts.0) scan.1 halts.1)
            (subst (λ (t : State). holds rule.when (process_of t) ≡ true) scan.1 asked)
            (subst (λ (t : State). holds timing.condition (process_of t) ≡ true) scan.1 held))))
      ]
    ]

    pub each-released : (events : List (ℕ × Event)) (scans : List (ℕ × Bool)) (s : State)
        (answers : List (Result Step StepFault)) (last : State) → AreOfTypes events
        → Standing bay image s
        → EachStep HaltsAt events s answers last
        → EachEvent (ScanReleasesAt rule timing) timing.condition events scans s answers last
    each-released [] scans s [] last typed o each = each
    each-released [] scans s (answer ∷ answers) last typed o each = absurd each
    each-released (e ∷ es) scans s [] last typed o each = absurd each
    each-released (e ∷ es) scans s (answer ∷ answers) last typed o each =
        let t = turned e.0 e.1 s answer each.0 typed.0 each.1 each.2 in
        let on =
        led-step bay image is_bay e.0 e.1 s answer each.0 o t in (
          each.0,
          each.1,
          released-step scans e.0 e.1 s answer each.0 o t,
          each-released es (scans_after timing.condition e.0 e.1 s answer scans) each.0 answers
              last typed.1 on.goes_on each.3,
        )

  -- ---- a release by a timer

  module _ (n : ℕ) (due : IsDueByTimer (program_of bay image) rule timing n) where
    -- Where the condition has held back to a scan, the timer's delay began by then; and each delay
    -- that runs began by the device's moment.
    record Lasting (scans : List (ℕ × Bool)) (s : State) : Type 0 where
      lasts : (start : ℕ) → RunsFrom start scans
          → is_by start (delay_onset_at n s.machine.timers) ≡ true
      past : (start : ℕ) → delay_start_at n s.machine.timers ≡ Some start → start ≤ s.moment

    lasting-quiet : (scans : List (ℕ × Bool)) (s t : State) → Lasting scans s → Quiet s t
        → ((m : ℕ) → m ≤ s.moment → m ≤ t.moment) → Lasting scans t
    lasting-quiet scans s t w q on = record {
      lasts = λ start runs.
          subst (λ m. is_by start (delay_onset_at n m.timers) ≡ true) (sym q.machine)
          (w.lasts start runs);
      past = λ start is.
          on start (w.past start
          (subst (λ m. delay_start_at n m.timers ≡ Some start) q.machine is));
    }

    module _ (now : ℕ) (s : State) (o : Standing bay image s) (scans : List (ℕ × Bool))
        (w : Lasting scans s) (later : s.moment ≤ now) (steps : ℕ)
        (halts : Halts now s steps (after_scan now (device_at now s))) where
      abbrev scanned : State
      scanned = after_scan now (device_at now s)

      abbrev held : Bool
      held = holds timing.condition (process_of s)

      past-on : (start : ℕ) → delay_start_at n scanned.machine.timers ≡ Some start → start ≤ now
      past-on start is =
          elim (delays-continue s.machine (inputs_of s) now scanned.machine.slots
          scanned.machine.timers
          (leaves bay image is_bay now s o steps halts) n start is) [
            | inl new ↦ omega (arith, new)
            | inr old ↦ (let before = w.past start old in omega (arith, before, later))
          ]

      begins-now : held ≡ true → is_by now (delay_onset_at n scanned.machine.timers) ≡ true
      begins-now so =
          begun-by now n scanned.machine.timers past-on
          (must-so held false (is_some (delay_onset_at n scanned.machine.timers))
          (due.begun_met (process_of s)
          (process-so bay image s o) 0 s.machine now
          scanned.machine.slots scanned.machine.timers o.image_is o.reached tt
          (read bay image is_bay now s o steps halts)) so refl)

      lasts-on : held ≡ true → (start : ℕ) → RunsFrom start scans
          → is_by start (delay_onset_at n scanned.machine.timers) ≡ true
      lasts-on so start runs =
          must-so held false (is_by start (delay_onset_at n scanned.machine.timers))
          (due.lasting_met (process_of s)
          (process-so bay image s o) start s.machine now
          scanned.machine.slots scanned.machine.timers o.image_is o.reached
          (by-limit start now 0 n s.machine.timers (w.lasts start runs) (omega arith))
          (read bay image is_bay now s o steps halts)) so refl

      lasting-scanned : Lasting ((now, held) ∷ scans) scanned
      lasting-scanned = record {
        lasts = λ start runs. elim runs.1 [
          | inl here ↦
              subst (λ (m : ℕ). is_by m (delay_onset_at n scanned.machine.timers) ≡ true) here
              (begins-now runs.0)
          | inr earlier ↦ lasts-on runs.0 start earlier
        ];
        past = past-on;
      }

      released : holds rule.when (process_of s) ≡ true → held ≡ true
          → Runs timing.time now scans
          → releases (program_of bay image) rule.switch rule.operation scanned.machine.slots ≡ true
      released asked so r =
          must-so (holds rule.when (process_of s))
          (holds (timing.condition ++ items.Not ∷ []) (process_of s))
          (releases (program_of bay image) rule.switch rule.operation scanned.machine.slots)
          (due.due_met (process_of s)
          (process-so bay image s o) r.start s.machine now
          scanned.machine.slots scanned.machine.timers o.image_is o.reached
          (by-limit r.start now timing.time n s.machine.timers (w.lasts r.start r.runs) r.far)
          (read bay image is_bay now s o steps halts)) asked
          (not-held (process_of s) timing.condition so)

      scan-due : holds rule.when (process_of scanned) ≡ true
          → HasHeld timing.time now ((now, held) ∷ scans)
          → is_released scanned rule.switch rule.operation ≡ true
      scan-due asked has =
          scanned-releases bay image is_bay now s o steps halts rule.switch rule.operation there
          ∙ released
          (ap (holds rule.when) (sym (scanned-process bay image is_bay now s o steps halts))
          ∙ asked)
          has.0
          (elim has.1 [
            | inl none ↦ absurd (let long = due.long in omega (arith, none, long))
            | inr earlier ↦ runs-of timing.time now scans earlier
          ])

    -- ---- a step

    -- what an event leaves
    record Led (scans : List (ℕ × Bool)) (now : ℕ) (event : Event) (s : State)
        (answer : Result Step StepFault) (new : State) : Type 0 where
      goes_on : Lasting (scans_after timing.condition now event s answer scans) new
      is_due : ScanIsDueAt rule timing scans now event s answer new

    led-refused : (scans : List (ℕ × Bool)) (now : ℕ) (event : Event) (s : State)
        (fault : StepFault) (answer : Result Step StepFault) (new : State) → Lasting scans s
        → answer ≡ Err fault → new ≡ s → Led scans now event s answer new
    led-refused scans now event s fault answer new w refused same =
        subst (λ (a : Result Step StepFault). Led scans now event s a new) (sym refused)
        (record {
          goes_on = subst (λ (l : List (ℕ × Bool)). Lasting l new)
              (sym (scans-refused timing.condition now event s fault scans))
              (subst (Lasting scans) (sym same) w);
          is_due = λ is. tt;
        })

    led-quiet : (scans : List (ℕ × Bool)) (now : ℕ) (event : Event) (s : State)
        (answer : Result Step StepFault) (new : State) → Lasting scans s → (event ≡ Scan → ⊥)
        → Quiet s new → Steps now event s answer new → Led scans now event s answer new
    led-quiet scans now event s answer new w other q steps = record {
      goes_on = subst (λ (l : List (ℕ × Bool)). Lasting l new)
          (sym (scans-same timing.condition now event s answer scans other))
          (lasting-quiet scans s new w q
          (λ m before. moment-on m now event s answer new steps before));
      is_due = λ is. absurd (other is);
    }

    led-scan : (scans : List (ℕ × Bool)) (now : ℕ) (s : State) (answer : Result Step StepFault)
        (new : State) → Standing bay image s → Lasting scans s
        → new ≡ after_scan now (device_at now s)
        → IsOkAnd answer (λ step. IsSomeAnd step.scan (λ n. Halts now s n new))
        → Steps now Scan s answer new → Led scans now Scan s answer new
    led-scan scans now s (Err fault) new o w left halts steps = absurd halts
    led-scan scans now s (Ok step) new o w left halts steps =
        let found = halts-of now s new (Ok step) halts in
        let is_halt : Halts now s found.0 (after_scan now (device_at now s)) =
        subst (Halts now s found.0) left found.1 in
        let later = accepted-on now Scan s step new steps in
        subst (λ (t : State). Led scans now Scan s (Ok step) t) (sym left)
        (record {
          goes_on = lasting-scanned now s o scans w later found.0 is_halt;
          is_due = λ is asked has. scan-due now s o scans w later found.0 is_halt asked has;
        })

    led-due : (scans : List (ℕ × Bool)) (now : ℕ) (event : Event) (s : State)
        (answer : Result Step StepFault) (new : State) → Standing bay image s → Lasting scans s
        → Steps now event s answer new → Turned now event s answer new
        → Led scans now event s answer new
    led-due scans now event s answer new o w steps t = elim t [
      | inl r ↦ led-refused scans now event s r.0 answer new w r.1 r.2
      | inr more ↦ elim more [
        | inl quiet ↦ led-quiet scans now event s answer new w quiet.0 quiet.1 steps
        | inr scan ↦
            subst (λ (e : Event). Led scans now e s answer new) (sym scan.0)
            (led-scan scans now s answer new o w scan.1 scan.2
            (subst (λ (e : Event). Steps now e s answer new) scan.0 steps))
      ]
    ]

    -- ---- runs

    each-due : (events : List (ℕ × Event)) (scans : List (ℕ × Bool)) (s : State)
        (answers : List (Result Step StepFault)) (last : State) → AreOfTypes events
        → Standing bay image s
        → Lasting scans s → EachStep HaltsAt events s answers last
        → EachEvent (ScanIsDueAt rule timing) timing.condition events scans s answers last
    each-due [] scans s [] last typed o w each = each
    each-due [] scans s (answer ∷ answers) last typed o w each = absurd each
    each-due (e ∷ es) scans s [] last typed o w each = absurd each
    each-due (e ∷ es) scans s (answer ∷ answers) last typed o w each =
        let t = turned e.0 e.1 s answer each.0 typed.0 each.1 each.2 in
        let led = led-due scans e.0 e.1 s answer each.0 o w each.1 t in
        let on =
        led-step bay image is_bay e.0 e.1 s answer each.0 o t in (
          each.0,
          each.1,
          led.is_due,
          each-due es (scans_after timing.condition e.0 e.1 s answer scans) each.0 answers last
              typed.1 on.goes_on led.goes_on each.3,
        )

    lasting-first : Lasting [] (initial_device bay image)
    lasting-first = record {
      lasts = λ start runs. absurd runs;
      past = λ start is. absurd (first-began image.timers n start is);
    }

pub scans-are-due : ScansAreDue
scans-are-due n bay image rule timing is_bay there due events answers last typed each =
    each-due bay image rule timing is_bay there n due events [] (initial_device bay image) answers
    last typed (standing-first bay image is_bay)
    (lasting-first bay image rule timing is_bay there n due) each

pub scans-release : ScansRelease
scans-release bay image rule timing is_bay there met events answers last typed each =
    each-released bay image rule timing is_bay there met events [] (initial_device bay image)
    answers last typed (standing-first bay image is_bay) each
