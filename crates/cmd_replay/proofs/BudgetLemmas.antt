-- A scan of a device that runs a program halts, within the budget of its code.
use Rattle.std.proofs.Common.{◌≡◌, ℕ, ◌≤◌, Bool, true, false, cond, ◌||◌, nat_lt, length, Option, Some, None, Result, IsOkAnd, IsSomeAnd, inl, inr, refl, sym, ap, subst, ◌∙◌, arith}
use Rattle.il_check.specs.Program.{Checked}
use Rattle.il_verify.specs.Verdicts.{IsBudget}
use Rattle.bay_device.specs.Device.{State, after_scan, run_result_at}
use Rattle.bay_device.specs.Meaning.{Halts, HaltsAt, Runs, is_refused}
use Rattle.bay_device.specs.Outcomes.{Outcome, last_moment, outcome, refusal_outcome, scan_outcome}
use Rattle.bay_device.specs.Steps.{Steps}
use Rattle.bay_device.specs.declared.event.Event.{Event}
use Rattle.bay_device.specs.declared.event.Event.TheVariants.{Scan}
use Rattle.bay_device.specs.declared.event.Step.{Step}
use Rattle.bay_device.specs.declared.fault.StepFault.{StepFault}
use Rattle.bay_device.specs.declared.fault.StepFault.TheVariants.{MomentTooLarge, TimeWentBack}
use Rattle.bay_device.proofs.MeaningLemmas.{means-step, scan-halts}
use Rattle.cmd_replay.proofs.KeptLemmas.{scan_told, turned}
use Rattle.cmd_replay.proofs.PathLemmas.{run-ends}

-- ---- a scan

module _ (c : Checked) (old : State) (runs : Runs c old) (now : ℕ) where
  halts-scan : Halts now old (run_result_at now old).steps (after_scan now old)
  halts-scan = record {
    halts = scan-halts c old runs now;
    within = λ budget b. b.most (run_result_at now old).steps
        (run-ends old.machine.image.code now (length old.machine.image.code) 0 _ _ _
        (run_result_at now old).steps refl (scan-halts c old runs now));
  }

  halts-if : (a b : Bool) → a || b ≡ false
      → let o : Outcome = cond a (refusal_outcome MomentTooLarge old)
      (cond b (refusal_outcome TimeWentBack old) (scan_outcome now old)) in
      IsOkAnd o.answer (λ step. IsSomeAnd step.scan (λ steps. Halts now old steps o.after))
  halts-if true b h = absurd cc
  halts-if false true h = absurd cc
  halts-if false false h =
      record { halts = halts-scan.halts; within = halts-scan.within }

  halts-outcome : (choice : Option ℕ) → is_refused now old ≡ false
      → IsOkAnd (outcome choice now Scan old).answer
      (λ step. IsSomeAnd step.scan
      (λ steps. Halts now old steps (outcome choice now Scan old).after))
  halts-outcome choice h = halts-if (nat_lt last_moment now) (nat_lt now old.moment) h

abbrev HaltsTo : ℕ → State → Result Step StepFault → State → Type 0
HaltsTo now old answer new =
    IsOkAnd answer (λ step. IsSomeAnd step.scan (λ steps. Halts now old steps new))

pub step-halts : (c : Checked) (now : ℕ) (event : Event) (old : State)
    (answer : Result Step StepFault) (new : State) → Runs c old → Steps now event old answer new
    → HaltsAt now event old answer new × Runs c new
step-halts c now event old answer new runs steps = (
  λ is on_time.
      let e = ap (λ (e : Event). outcome steps.choice now e old) is in
      subst (λ (s : State). HaltsTo now old answer s)
      (sym (steps.left ∙ ap (λ (o : Outcome). o.after) e))
      (subst (λ (r : Result Step StepFault). HaltsTo now old r
      (outcome steps.choice now Scan old).after)
      (sym (steps.answered ∙ ap (λ (o : Outcome). o.answer) e))
      (halts-outcome c old runs now steps.choice on_time)),
  (means-step c now event old answer new runs steps).1,
)

-- ---- the steps that a scan's answer tells

-- They are within each budget of the code.
abbrev pub IsWithin : ℕ → Event → State → Result Step StepFault → State → Type 0
IsWithin now event old answer new =
    (steps : ℕ) → scan_told answer ≡ Some steps → (budget : ℕ)
    → IsBudget old.machine.image.code budget → steps ≤ budget

pub step-within : (c : Checked) (now : ℕ) (event : Event) (old : State)
    (answer : Result Step StepFault) (new : State) → Runs c old → Steps now event old answer new
    → IsWithin now event old answer new × Runs c new
step-within c now event old answer new runs steps = (
  λ count told budget b. elim (turned now event old answer new steps) [
    | inl quiet ↦
        absurd (let no : ◌≡◌ {A = Option ℕ} None (Some count) = sym quiet.0 ∙ told in cc)
    | inr scan ↦
        (let is : ◌≡◌ {A = Option ℕ} (Some (run_result_at now old).steps) (Some count) =
        sym (ap scan_told scan.answered) ∙ told in
        let same : (run_result_at now old).steps ≡ count = cc in
        let within : (run_result_at now old).steps ≤ budget =
        (halts-scan c old runs now).within budget b in
        omega arith)
  ],
  (means-step c now event old answer new runs steps).1,
)
