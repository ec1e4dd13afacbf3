-- A rule with a time that a timer bears, along the events of a device.
use Rattle.std.proofs.Common.{◌≡◌, ◌⊎◌, inl, inr, ℕ, zero, suc, ◌-◌, ◌<◌, ◌≤◌, Bool, true, false, not, ◌&&◌, nat_lt, List, [], ◌∷◌, map, length, Option, None, Some, Result, Ok, Err, IfOk, refl, ap, ap₂, sym, subst, ◌∙◌, arith}
use Rattle.std.specs.Prelude.{IsOkAnd, IsSomeAnd, is_none}
use Rattle.std.proofs.lemmas.Bool.{and_parts}
use Rattle.bay_config.specs.Laws.{IsBay}
use Rattle.bay_config.specs.declared.bay.Bay.{Bay}
use Rattle.bay_audit_rules.specs.Process.{holds}
use Rattle.bay_audit_rules.specs.declared.rule.ConditionItem.{ConditionItem}
use Rattle.bay_audit_rules.specs.declared.rule.Rule.{Rule}
use Rattle.bay_audit_rules.specs.declared.rule.RuleKind.TheVariants.{Always, Never}
use Rattle.bay_audit_rules.specs.declared.rule.Timing.{Timing}
use Rattle.bay_mms_services.specs.declared.answer.Command.{Command}
use Rattle.il_image.specs.Images.{Image}
use Rattle.il_image.specs.declared.timer.TimerPhase.{TimerPhase}
use Rattle.il_image.specs.declared.timer.TimerPhase.TheVariants.{Idle, Held, Since}
use Rattle.il_image.specs.declared.timer.TimerState.{TimerState}
use Rattle.il_image.specs.Timers.{first_state}
use Rattle.bay_base.specs.declared.types.TimerKind.{TimerKind}
use Rattle.il_range.specs.Predictions.{AreDelays, delay_start, delay_start_at}
use Rattle.il_range.specs.Ranges.{IsDelay}
use Rattle.il_range.specs.declared.delay.KnownDelay.TheVariants.{Below}
use Rattle.il_range.proofs.StartLemmas.{delays-continue}
use Rattle.bay_device.specs.Commands.{AreCommanded, IsReleasedAt}
use Rattle.bay_device.specs.Device.{State, after_scan, device_at, inputs_of, is_recent}
use Rattle.bay_device.specs.Load.{initial_device}
use Rattle.bay_device.specs.Meaning.{Halts, HaltsAt}
use Rattle.bay_device.specs.Steps.{EachStep}
use Rattle.bay_device.specs.declared.event.Event.{Event}
use Rattle.bay_device.specs.declared.event.Event.TheVariants.{Open, Recv, Close, Contact, Input, Measure, BadMeasure, Lost, Scan}
use Rattle.bay_device.specs.declared.event.Step.{Step}
use Rattle.bay_device.specs.declared.fault.StepFault.{StepFault}
use Rattle.bay_device.proofs.CommandLemmas.{step-commanded}
use Rattle.bay_audit.specs.Rules.{IsByTimer, is_obeyed, limit_of, program_of, releases}
use Rattle.bay_audit_laws.specs.Laws.{AreOfTypes, CommandsWait, CommandsWaitAt, EachEvent, HasHeld, HasWaited, ScanWaitsAt, ScansWait, is_released, process_of, scans_after}
use Rattle.bay_audit_laws.proofs.DeviceLemmas.{Quiet}
use Rattle.bay_audit_laws.proofs.LawLemmas.{Standing, Turned, halts-of, leaves, led-step, not-true, process-same, process-so, read, recent-at, released-same, scanned-process, scanned-releases, standing-first, turned}

-- ---- timers

-- a timer whose delay began less than the time ago is within its limit
young-limit : (mark now time : ℕ) (n : ℕ) (timers : List TimerState)
    → ((start : ℕ) → delay_start_at n timers ≡ Some start → now - start < time)
    → AreDelays mark now timers (limit_of n (Below time))
young-limit mark now time zero [] less = (tt, tt)
young-limit mark now time (suc n) [] less =
    (tt, young-limit mark now time n [] (λ start is. absurd cc))
young-limit mark now time zero (t ∷ timers) less = (young t.phase less, tt)
  where
    young : (phase : TimerPhase)
        → ((start : ℕ) → delay_start phase ≡ Some start → now - start < time)
        → IsDelay mark now t.kind phase (Below time)
    young Idle h = tt
    young Held h = tt
    young (Since start) h = h start refl
young-limit mark now time (suc n) (t ∷ timers) less =
    (tt, young-limit mark now time n timers less)

-- no delay runs before the first scan
pub first-began : (kinds : List TimerKind) (n start : ℕ)
    → delay_start_at n (map first_state kinds) ≡ Some start → ⊥
first-began [] n start is = absurd cc
first-began (k ∷ kinds) zero start is = absurd cc
first-began (k ∷ kinds) (suc n) start is = first-began kinds n start is

none-some : (o : Option ℕ) (start : ℕ) → is_none o ≡ true → o ≡ Some start → ⊥
none-some None start none is = absurd cc
none-some (Some x) start none is = absurd cc

-- ---- scans

-- The condition has held at the last scan, and at each before it up to one at this moment.
abbrev pub RunsFrom : ℕ → List (ℕ × Bool) → Type 0
RunsFrom start [] = ⊥
RunsFrom start (scan ∷ scans) =
    (scan.1 ≡ true) × ((scan.0 ≡ start) ⊎ RunsFrom start scans)

held-from : (time now start : ℕ) (scans : List (ℕ × Bool)) → time ≤ now - start
    → RunsFrom start scans → HasHeld time now scans
held-from time now start [] long runs = absurd runs
held-from time now start (scan ∷ scans) long runs = (
  runs.0,
  elim runs.1 [
    | inl here ↦ inl (subst (λ (m : ℕ). time ≤ now - m) (sym here) long)
    | inr later ↦ inr (held-from time now start scans long later)
  ],
)

-- ---- demands

never-so : (a b r : Bool) → is_obeyed Never (a && b) r ≡ true → a ≡ true → b ≡ true → r ≡ false
never-so true true true h a b = absurd cc
never-so true true false h a b = refl
never-so true false r h a b = absurd cc
never-so false b r h a e = absurd cc

always-so : (b r : Bool) → is_obeyed Always (true && b) r ≡ true → b ≡ true → r ≡ true
always-so true r h b = h
always-so false r h b = absurd cc

-- ---- what is noted of scans

-- the scans stay where none is done
pub scans-same : (condition : List ConditionItem) (now : ℕ) (event : Event) (s : State)
    (answer : Result Step StepFault) (scans : List (ℕ × Bool)) → (event ≡ Scan → ⊥)
    → scans_after condition now event s answer scans ≡ scans
scans-same condition now (Open a) s answer scans other = refl
scans-same condition now (Recv a octets) s answer scans other = refl
scans-same condition now (Close a) s answer scans other = refl
scans-same condition now (Contact k position) s answer scans other = refl
scans-same condition now (Input k value) s answer scans other = refl
scans-same condition now (Measure k field value) s answer scans other = refl
scans-same condition now (BadMeasure k field) s answer scans other = refl
scans-same condition now Lost s answer scans other = refl
scans-same condition now Scan s answer scans other = absurd (other refl)

pub scans-refused : (condition : List ConditionItem) (now : ℕ) (event : Event) (s : State)
    (fault : StepFault) (scans : List (ℕ × Bool))
    → scans_after condition now event s (Err fault) scans ≡ scans
scans-refused condition now (Open a) s fault scans = refl
scans-refused condition now (Recv a octets) s fault scans = refl
scans-refused condition now (Close a) s fault scans = refl
scans-refused condition now (Contact k position) s fault scans = refl
scans-refused condition now (Input k value) s fault scans = refl
scans-refused condition now (Measure k field value) s fault scans = refl
scans-refused condition now (BadMeasure k field) s fault scans = refl
scans-refused condition now Lost s fault scans = refl
scans-refused condition now Scan s fault scans = refl

-- ---- what is kept along the events

module _ (bay : Bay) (image : Image) (rule : Rule) (timing : Timing) (n : ℕ) (is_bay : IsBay bay)
    (there : rule.switch < length bay.switches)
    (bears : IsByTimer (program_of bay image) rule timing n) where
  -- A delay that runs began at a scan since which the condition has held; where the last scan is
  -- not stale and releases the switch, the condition has held for the time.
  pub record Waiting (scans : List (ℕ × Bool)) (s : State) : Type 0 where
    runs : (start : ℕ) → delay_start_at n s.machine.timers ≡ Some start → RunsFrom start scans
    waits : (m : ℕ) → s.last_scan ≡ Some m → s.is_stale ≡ false
        → holds rule.when (process_of s) ≡ true
        → is_released s rule.switch rule.operation ≡ true → HasHeld timing.time m scans

  -- ---- no scan

  waiting-quiet : (scans : List (ℕ × Bool)) (s t : State) → Waiting scans s → Quiet s t
      → Waiting scans t
  waiting-quiet scans s t w q = record {
    runs = λ start is. w.runs start
        (subst (λ m. delay_start_at n m.timers ≡ Some start) q.machine is);
    waits = λ m last fresh asked released.
        let same : process_of t ≡ process_of s =
        process-same s t q fresh in
        w.waits m (sym q.scans ∙ last) (q.stale fresh)
        (ap (holds rule.when) (sym same) ∙ asked)
        (sym (released-same s t rule.switch rule.operation q) ∙ released);
  }

  -- ---- a scan

  module _ (now : ℕ) (s : State) (o : Standing bay image s) (scans : List (ℕ × Bool))
      (w : Waiting scans s) (steps : ℕ)
      (halts : Halts now s steps (after_scan now (device_at now s))) where
    abbrev scanned : State
    scanned = after_scan now (device_at now s)

    abbrev held : Bool
    held = holds timing.condition (process_of s)

    idle-told : held ≡ false → (start : ℕ) → delay_start_at n scanned.machine.timers ≡ Some start
        → ⊥
    idle-told none start is =
        let none_runs : is_none (delay_start_at n scanned.machine.timers) ≡ true =
        always-so (not held) (is_none (delay_start_at n scanned.machine.timers))
        (bears.idle_met (process_of s)
        (process-so bay image s o) 0 s.machine now
        scanned.machine.slots scanned.machine.timers o.image_is o.reached tt
        (read bay image is_bay now s o steps halts)) (ap not none) in
        none-some (delay_start_at n scanned.machine.timers) start none_runs is

    held-while : (start : ℕ) → delay_start_at n scanned.machine.timers ≡ Some start → held ≡ true
    held-while start is = go held refl
      where
        go : (b : Bool) → held ≡ b → held ≡ true
        go true e = e
        go false e = absurd (idle-told e start is)

    runs-on : (start : ℕ) → delay_start_at n scanned.machine.timers ≡ Some start
        → RunsFrom start ((now, held) ∷ scans)
    runs-on start is = (
      held-while start is,
      elim (delays-continue s.machine (inputs_of s) now scanned.machine.slots
          scanned.machine.timers
          (leaves bay image is_bay now s o steps halts) n start is) [
            | inl new ↦ inl (sym new)
            | inr old ↦ inr (w.runs start old)
          ],
    )

    abbrev g_releases : Bool
    g_releases =
        releases (program_of bay image) rule.switch rule.operation scanned.machine.slots

    held-at : holds rule.when (process_of s) ≡ true → g_releases ≡ true → held ≡ true
    held-at asked released = go held refl
      where
        go : (b : Bool) → held ≡ b → held ≡ true
        go true e = e
        go false e = absurd
            (let none : g_releases ≡ false =
            never-so (holds rule.when (process_of s)) (not held) g_releases
            (bears.necessary_met (process_of s)
            (process-so bay image s o) 0 s.machine now
            scanned.machine.slots scanned.machine.timers o.image_is o.reached tt
            (read bay image is_bay now s o steps halts)) asked
            (ap not e) in
            cc)

    -- a delay that is short lets no release through
    not-young : holds rule.when (process_of s) ≡ true → g_releases ≡ true
        → AreDelays 0 now s.machine.timers (limit_of n (Below timing.time)) → ⊥
    not-young asked released young =
        let none : g_releases ≡ false =
        never-so (holds rule.when (process_of s)) true g_releases
        (bears.delay_met (process_of s)
        (process-so bay image s o) 0 s.machine now
        scanned.machine.slots scanned.machine.timers o.image_is o.reached young
        (read bay image is_bay now s o steps halts)) asked refl in
        absurd (cc)

    waits-on : holds rule.when (process_of s) ≡ true → g_releases ≡ true
        → HasHeld timing.time now ((now, held) ∷ scans)
    waits-on asked released =
        (held-at asked released, inr (go (delay_start_at n s.machine.timers) refl))
      where
        long : (start : ℕ) (b : Bool) → delay_start_at n s.machine.timers ≡ Some start
            → nat_lt (now - start) timing.time ≡ b → HasHeld timing.time now scans
        long start true is less = absurd (not-young asked released
            (young-limit 0 now timing.time n s.machine.timers
            (λ other began. let same : other ≡ start = cc in
            subst (λ (m : ℕ). now - m < timing.time) (sym same) (grind (arith, less)))))
        long start false is less =
            held-from timing.time now start scans (grind (arith, less)) (w.runs start is)

        go : (b : Option ℕ) → delay_start_at n s.machine.timers ≡ b → HasHeld timing.time now scans
        go None is = absurd (not-young asked released
            (young-limit 0 now timing.time n s.machine.timers (λ start began. absurd (cc))))
        go (Some start) is = long start (nat_lt (now - start) timing.time) is refl

    -- what is told after the scan is what its slots release
    scan-waits : holds rule.when (process_of scanned) ≡ true
        → is_released scanned rule.switch rule.operation ≡ true
        → HasHeld timing.time now ((now, held) ∷ scans)
    scan-waits asked released =
        waits-on
        (ap (holds rule.when) (sym (scanned-process bay image is_bay now s o steps halts)) ∙ asked)
        (sym (scanned-releases bay image is_bay now s o steps halts rule.switch rule.operation
        there)
        ∙ released)

    waiting-scanned : Waiting ((now, held) ∷ scans) scanned
    waiting-scanned = record {
      runs = runs-on;
      waits = λ m last fresh asked released.
          let same : now ≡ m = cc in
          subst (λ (x : ℕ). HasHeld timing.time x ((now, held) ∷ scans)) same
          (scan-waits asked released);
    }

  -- ---- a step

  -- what an event leaves
  pub record Led (scans : List (ℕ × Bool)) (now : ℕ) (event : Event) (s : State)
      (answer : Result Step StepFault) (new : State) : Type 0 where
    pub goes_on : Waiting (scans_after timing.condition now event s answer scans) new
    scan_waits : ScanWaitsAt rule timing scans now event s answer new

  led-refused : (scans : List (ℕ × Bool)) (now : ℕ) (event : Event) (s : State)
      (fault : StepFault) (answer : Result Step StepFault) (new : State) → Waiting scans s
      → answer ≡ Err fault → new ≡ s → Led scans now event s answer new
  led-refused scans now event s fault answer new w refused same =
      subst (λ (a : Result Step StepFault). Led scans now event s a new) (sym refused)
      (record {
        goes_on = subst (λ (l : List (ℕ × Bool)). Waiting l new)
            (sym (scans-refused timing.condition now event s fault scans))
            (subst (Waiting scans) (sym same) w);
        scan_waits = λ is. tt;
      })

  led-quiet : (scans : List (ℕ × Bool)) (now : ℕ) (event : Event) (s : State)
      (answer : Result Step StepFault) (new : State) → Waiting scans s → (event ≡ Scan → ⊥)
      → Quiet s new → Led scans now event s answer new
  led-quiet scans now event s answer new w other q = record {
    goes_on = subst (λ (l : List (ℕ × Bool)). Waiting l new)
        (sym (scans-same timing.condition now event s answer scans other))
        (waiting-quiet scans s new w q);
    scan_waits = λ is. absurd (other is);
  }

  led-scan : (scans : List (ℕ × Bool)) (now : ℕ) (s : State) (answer : Result Step StepFault)
      (new : State) → Standing bay image s → Waiting scans s
      → new ≡ after_scan now (device_at now s)
      → IsOkAnd answer (λ step. IsSomeAnd step.scan (λ n. Halts now s n new))
      → Led scans now Scan s answer new
  led-scan scans now s (Err fault) new o w left halts = absurd halts
  led-scan scans now s (Ok step) new o w left halts =
      let found = halts-of now s new (Ok step) halts in
      let is_halt : Halts now s found.0 (after_scan now (device_at now s)) =
      subst (Halts now s found.0) left found.1 in
      subst (λ (t : State). Led scans now Scan s (Ok step) t) (sym left)
      (record {
        goes_on = waiting-scanned now s o scans w found.0 is_halt;
        scan_waits = λ is asked released. scan-waits now s o scans w found.0 is_halt asked
            released;
      })

  pub led-step-wait : (scans : List (ℕ × Bool)) (now : ℕ) (event : Event) (s : State)
      (answer : Result Step StepFault) (new : State) → Standing bay image s → Waiting scans s
      → Turned now event s answer new → Led scans now event s answer new
  led-step-wait scans now event s answer new o w t = elim t [
    | inl r ↦ led-refused scans now event s r.0 answer new w r.1 r.2
    | inr more ↦ elim more [
      | inl quiet ↦ led-quiet scans now event s answer new w quiet.0 quiet.1
      | inr scan ↦
          subst (λ (e : Event). Led scans now e s answer new) (sym scan.0)
          (led-scan scans now s answer new o w scan.1 scan.2)
    ]
  ]

  -- ---- commands

  some-and : (P : ℕ → Type 0) (o : Option ℕ) (m : ℕ) → o ≡ Some m → P m → IsSomeAnd o P
  some-and P (Some x) m is h = subst P (let same : m ≡ x = cc in same) h
  some-and P None m is h = absurd cc

  pub has-waited : (scans : List (ℕ × Bool)) (now : ℕ) (s : State) (command : Command)
      → Waiting scans s → IsReleasedAt now s command → HasWaited rule timing scans s command
  has-waited scans now s command w released at on asked =
      let parts =
      and_parts (is_recent now s.scan_max_age_ms s.last_scan) (not s.is_stale) released.fresh in
      let scan = recent-at now s.scan_max_age_ms
      s.last_scan parts.0 in
      some-and (λ m. HasHeld timing.time m scans) s.last_scan scan.0 scan.1
      (w.waits scan.0 scan.1
      (not-true s.is_stale parts.1) asked
      (ap₂ (is_released s) (sym at) (sym on) ∙ released.enabled))

  pub commands-wait : (scans : List (ℕ × Bool)) (now : ℕ) (event : Event) (s : State)
      (answer : Result Step StepFault) (new : State) → Waiting scans s
      → IfOk answer (AreCommanded now s) → CommandsWaitAt rule timing scans now event s answer new
  commands-wait scans now event s (Ok step) new w commanded =
      λ k d lt. has-waited scans now s _ w (commanded.released k d lt)
  commands-wait scans now event s (Err fault) new w commanded = tt

  -- ---- runs

  each-wait : (events : List (ℕ × Event)) (scans : List (ℕ × Bool)) (s : State)
      (answers : List (Result Step StepFault)) (last : State) → AreOfTypes events
      → Standing bay image s
      → Waiting scans s → EachStep HaltsAt events s answers last
      → EachEvent (ScanWaitsAt rule timing) timing.condition events scans s answers last
  each-wait [] scans s [] last typed o w each = each
  each-wait [] scans s (answer ∷ answers) last typed o w each = absurd each
  each-wait (e ∷ es) scans s [] last typed o w each = absurd each
  each-wait (e ∷ es) scans s (answer ∷ answers) last typed o w each =
      let t = turned e.0 e.1 s answer each.0 typed.0 each.1 each.2 in
      let led = led-step-wait scans e.0 e.1 s answer each.0 o w t in
      let on =
      led-step bay image is_bay e.0 e.1 s answer each.0 o t in (
        each.0,
        each.1,
        led.scan_waits,
        each-wait es (scans_after timing.condition e.0 e.1 s answer scans) each.0 answers last
            typed.1 on.goes_on led.goes_on each.3,
      )

  each-command-wait : (events : List (ℕ × Event)) (scans : List (ℕ × Bool)) (s : State)
      (answers : List (Result Step StepFault)) (last : State) → AreOfTypes events
      → Standing bay image s
      → Waiting scans s → EachStep HaltsAt events s answers last
      → EachEvent (CommandsWaitAt rule timing) timing.condition events scans s answers last
  each-command-wait [] scans s [] last typed o w each = each
  each-command-wait [] scans s (answer ∷ answers) last typed o w each = absurd each
  each-command-wait (e ∷ es) scans s [] last typed o w each = absurd each
  each-command-wait (e ∷ es) scans s (answer ∷ answers) last typed o w each =
      let t = turned e.0 e.1 s answer each.0 typed.0 each.1 each.2 in
      let led = led-step-wait scans e.0 e.1 s answer each.0 o w t in
      let on =
      led-step bay image is_bay e.0 e.1 s answer each.0 o t in (
        each.0,
        each.1,
        commands-wait scans e.0 e.1 s answer each.0 w
            (step-commanded e.0 e.1 s answer each.0 each.1),
        each-command-wait es (scans_after timing.condition e.0 e.1 s answer scans) each.0 answers
            last typed.1 on.goes_on led.goes_on each.3,
      )

  -- ---- load

  pub waiting-first : Waiting [] (initial_device bay image)
  waiting-first = record {
    runs = λ start is. absurd (first-began image.timers n start is);
    waits = λ m last fresh asked released. absurd cc;
  }

pub scans-wait : ScansWait
scans-wait n bay image rule timing is_bay there bears events answers last typed each =
    each-wait bay image rule timing n is_bay there bears events [] (initial_device bay image)
    answers last typed (standing-first bay image is_bay)
    (waiting-first bay image rule timing n is_bay there bears) each

pub commands-wait-all : CommandsWait
commands-wait-all n bay image rule timing is_bay there bears events answers last typed each =
    each-command-wait bay image rule timing n is_bay there bears events []
    (initial_device bay image) answers last typed
    (standing-first bay image is_bay)
    (waiting-first bay image rule timing n is_bay there bears) each
