-- The scans of the turns of a server and of a replay wait for a rule with `until`.
use Rattle.std.proofs.Common.{◌≡◌, ◌∙◌, ◌<◌, ◌-◌, ◌&&◌, ℕ, nat_le, not, Bool, true, false, List, [], ◌∷◌, length, Option, Some, None, Result, Ok, Err, inl, inr, ap, ap₂, sym, subst, refl, arith}
use Rattle.std.specs.Prelude.{IsSomeAnd, OnOk}
use Rattle.std.proofs.lemmas.Bool.Decides.{nat_tests}
use Rattle.bay_audit.specs.Process.{IsProcess}
use Rattle.bay_audit.specs.Rules.{IsByTimer, IsRightAnswer, is_obeyed, program_of}
use Rattle.bay_audit.specs.declared.answer.RuleAnswer.{RuleAnswer}
use Rattle.bay_audit.specs.declared.answer.RuleAnswer.TheVariants.{Broken, Holds, Open, Since, TooMany}
use Rattle.bay_audit_laws.specs.Laws.{HasHeld, ScanObeysAt, ScanWaitsAt, is_released, process_of, scans_after}
use Rattle.bay_audit_laws.proofs.DeviceLemmas.{Quiet}
use Rattle.bay_audit_laws.proofs.LawLemmas.{Turned, process-so, turned}
use Rattle.bay_audit_laws.proofs.WaitLemmas.{Waiting, has-waited, led-step-wait}
use Rattle.bay_audit_rules.specs.Process.{holds}
use Rattle.bay_audit_rules.specs.declared.rule.Rule.{Rule}
use Rattle.bay_audit_rules.specs.declared.rule.RuleKind.{RuleKind}
use Rattle.bay_audit_rules.specs.declared.rule.RuleKind.TheVariants.{Never}
use Rattle.bay_audit_rules.specs.declared.rule.Timing.{Timing}
use Rattle.bay_config.specs.Laws.{IsBay}
use Rattle.bay_config.specs.declared.bay.Bay.{Bay}
use Rattle.bay_device.specs.Device.{State, is_recent}
use Rattle.bay_device.specs.Fresh.{PastEvent}
use Rattle.bay_device.specs.Load.{initial_device}
use Rattle.bay_device.specs.Steps.{Steps}
use Rattle.bay_device.specs.declared.event.Event.{Event}
use Rattle.bay_device.specs.declared.event.Event.TheVariants.{Lost}
use Rattle.bay_device.specs.declared.event.Step.{Step}
use Rattle.bay_device.specs.declared.fault.StepFault.{StepFault}
use Rattle.bay_device.specs.declared.fault.StepFault.TheVariants.{TimeWentBack}
use Rattle.bay_device.proofs.FreshLemmas.{told-same}
use Rattle.bay_mms_services.specs.declared.answer.Command.{Command}
use Rattle.cmd_replay.specs.History.{EachPast, device_after}
use Rattle.il_image.specs.Images.{Image}
use Rattle.cmd_audit_laws.specs.ScanWaits.{Passes, PastScansWait}
use Rattle.cmd_audit_laws.specs.Waits.{scans_of}
use Rattle.cmd_audit_laws.proofs.AuditLemmas.{right-rule, right-timer}
use Rattle.cmd_audit_laws.proofs.ObeyLemmas.{AreTypedPast, Good, good-first, past-scans}
use Rattle.cmd_audit_laws.proofs.SoundLemmas.{Steady, steady-halts}
use Rattle.cmd_audit_laws.proofs.WaitLemmas.{Ready, past-waits, ready-first}

-- ---- a scan that waits

on-ok : (answer : Result Step StepFault) (P : Type 0) → P → OnOk answer P
on-ok (Ok step) P h = h
on-ok (Err fault) P h = tt

some-and-is : (P : ℕ → Type 0) (o : Option ℕ) (m : ℕ) → o ≡ Some m → IsSomeAnd o P → P m
some-and-is P o m is h = subst (λ (o : Option ℕ). IsSomeAnd o P) is h

-- a scan at this very moment is fresh
fresh-now : (now age : ℕ) (scan : Option ℕ) (stale : Bool) → scan ≡ Some now → stale ≡ false
    → is_recent now age scan && not stale ≡ true
fresh-now now age scan stale last fresh =
    ap₂ (λ (o : Option ℕ) (b : Bool). is_recent now age o && not b) last fresh ∙ at-once
  where
    at-once : (is_recent now age (Some now) && not false) ≡ true
    at-once = by-test (nat_le (now - now) age) refl
      where
        by-test : (b : Bool) → nat_le (now - now) age ≡ b → (b && true) ≡ true
        by-test true e = refl
        by-test false e = absurd (grind (arith, nat_tests, e))

module _ (bay : Bay) (image : Image) (rule : Rule) (timing : Timing) (n : ℕ) (is_bay : IsBay bay)
    (there : rule.switch < length bay.switches)
    (bears : IsByTimer (program_of bay image) rule timing n) where
  abbrev command_of_rule : Command
  command_of_rule = record { switch = rule.switch; operation = rule.operation }

  -- where the last scan was at this moment and released the switch, the condition has held
  module _ (scans : List (ℕ × Bool)) (now : ℕ) (s : State)
      (r : Ready bay image rule timing n is_bay there bears scans s) where
    -- the same device, whose process is not lost and where nothing operates
    abbrev heard : State
    heard = record s {
      is_lost = false;
      controls = record { controls = []; selection = None; execution = None };
    }

    heard-quiet : Quiet s heard
    heard-quiet = record {
      machine = refl;
      switches = refl;
      meters = refl;
      reads = refl;
      writes = refl;
      scans = refl;
      stale = λ h. h;
      rows = λ h. told-same s.rows s.rows refl;
      inputs = λ h. refl;
      keeps = λ k x. refl;
      fits = λ count all. all;
    }

    heard-waits : Waiting bay image rule timing n is_bay there bears scans heard
    heard-waits =
        (led-step-wait bay image rule timing n is_bay there bears scans now Lost s
        (Err TimeWentBack) heard r.stands r.waiting (inr (inl (λ is. cc, heard-quiet)))).goes_on

    held-now : s.last_scan ≡ Some now → s.is_stale ≡ false
        → holds rule.when (process_of s) ≡ true
        → is_released s rule.switch rule.operation ≡ true → HasHeld timing.time now scans
    held-now last fresh asked released =
        some-and-is (λ m. HasHeld timing.time m scans) s.last_scan now last
        (has-waited bay image rule timing n is_bay there bears scans now heard command_of_rule
        heard-waits (record {
          heard = refl;
          remote = refl;
          fresh = fresh-now now s.scan_max_age_ms s.last_scan s.is_stale last fresh;
          enabled = released;
          idle = refl;
        }) refl refl asked)

  -- an accepted scan waits
  scan-waits : (scans : List (ℕ × Bool)) (now : ℕ) (event : Event) (old : State)
      (answer : Result Step StepFault) (new : State) → Turned now event old answer new
      → Ready bay image rule timing n is_bay there bears
      (scans_after timing.condition now event old answer scans) new
      → ScanWaitsAt rule timing scans now event old answer new
  scan-waits scans now event old answer new turn r scan = elim turn [
    | inl refused ↦
        subst (λ (a : Result Step StepFault). OnOk a (holds rule.when (process_of new) ≡ true
        → is_released new rule.switch rule.operation ≡ true
        → HasHeld timing.time now (scans_after timing.condition now event old answer scans)))
        (sym refused.1) tt
    | inr (inl quiet) ↦ absurd (quiet.0 scan)
    | inr (inr did) ↦
        on-ok answer _
        (λ asked released.
        held-now (scans_after timing.condition now event old answer scans) now new r
        (ap (λ (s : State). s.last_scan) did.1) (ap (λ (s : State). s.is_stale) did.1) asked
        released)
  ]

  -- each scan of a history waits
  timer-waits : (first : State) (past : List PastEvent) → EachPast Steps first past
      → AreTypedPast first past → Ready bay image rule timing n is_bay there bears [] first
      → PastScansWait rule timing first past
  timer-waits first [] steps typed r = tt
  timer-waits first (p ∷ past) steps typed r =
      let old : State = device_after first past in
      let before = (past-waits bay image rule timing n is_bay there bears first past steps.1 typed.1
      r).1 in
      let behind = (past-waits bay image rule timing n is_bay there bears first (p ∷ past) steps
      typed r).1 in
      let is : IsProcess (process_of old) = process-so bay image old before.stands in
      let turn : Turned p.now p.event old p.answer p.after =
      turned p.now p.event old p.answer p.after typed.0 steps.0
      (steady-halts p.now p.event old p.answer p.after is before.steady steps.0) in (
        scan-waits (scans_of timing.condition first past) p.now p.event old p.answer p.after turn
            behind,
        timer-waits first past steps.1 typed.1 r,
      )

-- ---- a rule that no timer has to establish

never-released : (a r : Bool) → is_obeyed Never a r ≡ true → a ≡ true → r ≡ true → ⊥
never-released true true h a r = absurd cc
never-released true false h a r = absurd cc
never-released false r h a e = absurd cc

plain-waits : (rule : Rule) (timing : Timing) → rule.kind ≡ Never → (first : State)
    (past : List PastEvent) → EachPast (ScanObeysAt rule) first past
    → PastScansWait rule timing first past
plain-waits rule timing never first [] obeys = tt
plain-waits rule timing never first (p ∷ past) obeys = (
  λ scan. by-answer p.answer (obeys.0 scan),
  plain-waits rule timing never first past obeys.1,
)
  where
    by-answer : (answer : Result Step StepFault)
        → OnOk answer (is_obeyed rule.kind (holds rule.when (process_of p.after))
        (is_released p.after rule.switch rule.operation) ≡ true)
        → OnOk answer (holds rule.when (process_of p.after) ≡ true
        → is_released p.after rule.switch rule.operation ≡ true
        → HasHeld timing.time p.now
        (scans_after timing.condition p.now p.event (device_after first past) p.answer
        (scans_of timing.condition first past)))
    by-answer (Err fault) obeyed = tt
    by-answer (Ok step) obeyed =
        λ asked released. absurd
        (never-released (holds rule.when (process_of p.after))
        (is_released p.after rule.switch rule.operation)
        (ap (λ (kind : RuleKind). is_obeyed kind (holds rule.when (process_of p.after))
        (is_released p.after rule.switch rule.operation)) (sym never) ∙ obeyed) asked released)

-- ---- a rule that an audit passes

-- each scan of a device waits for it, in a history since load
pub passed-waits : (own : Bay) (image : Image) → IsBay own → (rule : Rule) (timing : Timing)
    → rule.switch < length own.switches → rule.kind ≡ Never → rule.timed ≡ Some timing
    → (answer : RuleAnswer) → Passes answer → IsRightAnswer (program_of own image) rule answer
    → Steady (initial_device own image) → (first : State) → first ≡ initial_device own image
    → (past : List PastEvent) → EachPast Steps first past → AreTypedPast first past
    → PastScansWait rule timing first past
passed-waits own image sound rule timing there never timed (Holds cases) passes right steady first
    is past steps typed =
    plain-waits rule timing never first past
    (past-scans own image sound rule there
    (right-rule (program_of own image) rule (Holds cases) never tt right) first past steps typed
    (subst (Good own image sound) (sym is) (good-first own image sound steady)))
passed-waits own image sound rule timing there never timed (Since timer cases) passes right steady
    first is past steps typed =
    let borne = right-timer (program_of own image) rule timing (Since timer cases) never timed tt
    right in
    timer-waits own image rule timing borne.timer sound there borne.bears first past steps typed
    (subst (Ready own image rule timing borne.timer sound there borne.bears []) (sym is)
    (ready-first own image rule timing borne.timer sound there borne.bears steady))
passed-waits own image sound rule timing there never timed (Broken case) passes right steady first
    is past steps typed = absurd passes
passed-waits own image sound rule timing there never timed (Open case kept) passes right steady
    first is past steps typed = absurd passes
passed-waits own image sound rule timing there never timed TooMany passes right steady first is
    past steps typed = absurd passes
