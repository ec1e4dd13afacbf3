-- What is known of a run, and the lines of a report that are of no event.
use Rattle.std.proofs.Common.{◌≡◌, ℕ, ◌+◌, ◌<◌, ◌≤◌, ◌^◌, ◌==◌, Bool, true, false, cond, List, [], ◌∷◌, ◌++◌, codes, Option, Some, None, Result, inl, inr, refl, ap, sym, subst, append_assoc, arith}
use Rattle.std.specs.Fmt.{decimal}
use Rattle.il_check.specs.Program.{Checked}
use Rattle.il_check.proofs.TypedLemmas.{typed-of}
use Rattle.il_verify.specs.Verdicts.{IsBudget}
use Rattle.bay_device.specs.Device.{State}
use Rattle.bay_device.specs.Fresh.{PastEvent}
use Rattle.bay_device.specs.Meaning.{Runs}
use Rattle.bay_device.specs.Steps.{Steps}
use Rattle.bay_device.specs.declared.event.Event.{Event}
use Rattle.bay_device.specs.declared.event.Step.{Step}
use Rattle.bay_load.specs.Errors.{code_of, line_of}
use Rattle.bay_load.specs.declared.error.LoadError.{LoadError}
use Rattle.bay_device.specs.declared.fault.StepFault.{StepFault}
use Rattle.bay_load.specs.declared.report.Report.{Report}
use Rattle.bay_device.proofs.LoadLemmas.{image-is}
use Rattle.bay_report.specs.Lines.{unreadable_text}
use Rattle.bay_report.specs.Report.{coded_refusal, load_refusal_text}
use Rattle.cmd_replay.specs.Scenario.{ScenarioParts}
use Rattle.cmd_replay.specs.History.{EachPast}
use Rattle.bay_replay_laws.specs.Printed.{printed_scan}
use Rattle.bay_replay_laws.specs.ReadBack.{HaveIds}
use Rattle.cmd_replay.specs.Runs.{EndsAs, IsRun}
use Rattle.cmd_replay.proofs.BudgetLemmas.{IsWithin, step-within}
use Rattle.cmd_replay.proofs.HistoryLemmas.{past-does, past-fixed}
use Rattle.cmd_replay.proofs.KeptLemmas.{scan_told}
use Rattle.bay_replay_laws.proofs.LineLemmas.{AreLines, decimal-free, free, free-append, no-lines, one-line}
use Rattle.bay_device.proofs.LoadedLemmas.{loaded-runs}
use Rattle.bay_replay_laws.proofs.NameLemmas.{bay-named}
use Rattle.cmd_replay.proofs.PathLemmas.{budget-small}
use Rattle.bay_replay_laws.proofs.ReadLemmas.{IsOther, load_line, no-end, no-scan-line, no-space, other-line}

-- The steps that an answer tells of can be read back.
abbrev pub AreFew : ℕ → Event → State → Result Step StepFault → State → Type 0
AreFew now event old answer new = (steps : ℕ) → scan_told answer ≡ Some steps → steps < 2 ^ 64

module _ (first : State) (budget : ℕ) (small : budget < 2 ^ 64) (ids : HaveIds first.switches)
    (b : IsBudget first.machine.image.code budget) where
  pub past-few : (past : List PastEvent) → EachPast Steps first past → EachPast IsWithin first past
      → EachPast AreFew first past
  past-few [] steps within = tt
  past-few (p ∷ past) steps within = (
    λ count reported.
        let less : count ≤ budget =
        within.0 count reported budget
        (subst (λ image. IsBudget image.code budget) (sym (past-fixed first past steps.1).image)
        b) in
        omega (arith, less, small),
    past-few past steps.1 within.1,
  )

-- ---- the other lines

pub no-parts-lines : AreLines IsOther (codes "fault 120 line 0\n")
no-parts-lines =
    one-line (codes "fault 120 line 0") refl (record { no_scan = refl; no_command = refl })

unread-lines : (k : ℕ) → AreLines IsOther (unreadable_text k)
unread-lines k =
    one-line (codes "fault" ++ 32 ∷ (codes "120" ++ 32 ∷ (codes "line" ++ 32 ∷ decimal k)))
    (decimal-free 10 k no-end)
    (other-line (codes "fault") (codes "120") (codes "line" ++ 32 ∷ decimal k) refl refl refl refl)

memory-lines : AreLines IsOther (codes "fault memory\n")
memory-lines = one-line (codes "fault memory") refl (record { no_scan = refl; no_command = refl })

pub ending-lines : (done : ℕ) (rest : List (List ℕ)) (ending : List ℕ) (status : ℕ)
    → EndsAs done rest ending status → AreLines IsOther ending
ending-lines done [] ending status ends = subst (AreLines IsOther) (sym ends.0) no-lines
ending-lines done (line ∷ rest) ending status (inl unread, is) =
    subst (AreLines IsOther) (sym unread.1) (unread-lines (done + 1))
ending-lines done (line ∷ rest) ending status (inr memory, is) =
    subst (AreLines IsOther) (sym memory) memory-lines

refused-with : (a m c end : List ℕ) → a ++ (32 ∷ m) ++ (c ++ end) ≡ (a ++ 32 ∷ (m ++ c)) ++ end
refused-with a m c end = simp append_assoc

numbered-lines : (b : Bool) (code line : ℕ)
    → AreLines IsOther (cond b (codes "load refused " ++ (decimal code ++ codes "\n"))
    (codes "load refused " ++ decimal code ++ codes " line " ++ (decimal line ++ codes "\n")))
numbered-lines true code line =
    one-line (codes "load" ++ 32 ∷ (codes "refused" ++ 32 ∷ decimal code))
    (decimal-free 10 code no-end)
    (other-line (codes "load") (codes "refused") (decimal code) refl refl refl refl)
numbered-lines false code line =
    let rest : List ℕ = decimal code ++ 32 ∷ (codes "line " ++ decimal line) in
    subst (AreLines IsOther)
    (sym (ap (λ t. codes "load refused " ++ t)
    (refused-with (decimal code) (codes "line ") (decimal line) (codes "\n"))))
    (one-line (codes "load" ++ 32 ∷ (codes "refused" ++ 32 ∷ rest))
    (free-append 10 (decimal code) (32 ∷ (codes "line " ++ decimal line))
    (decimal-free 10 code no-end) (decimal-free 10 line no-end))
    (other-line (codes "load") (codes "refused") rest refl refl refl refl))

refused-by : (code : Option ℕ) (line : ℕ) → AreLines IsOther (coded_refusal code line)
refused-by None line =
    one-line (codes "load refused memory") refl (record { no_scan = refl; no_command = refl })
refused-by (Some code) line = numbered-lines (line == 0) code line

pub refused-lines : (error : LoadError) → AreLines IsOther (load_refusal_text error)
refused-lines error = refused-by (code_of error) (line_of error)

-- ---- a report

pub load-free : (i d b : ℕ) → free 10 (load_line i d b) ≡ true
load-free i d b =
    free-append 10 (decimal i) (32 ∷ ((codes "depth=" ++ decimal d) ++ 32 ∷ (codes "budget="
    ++ decimal b)))
    (decimal-free 10 i no-end)
    (free-append 10 (decimal d) (32 ∷ (codes "budget=" ++ decimal b)) (decimal-free 10 d no-end)
    (decimal-free 10 b no-end))

pub load-none : (i d b : ℕ) → printed_scan (load_line i d b) ≡ None
load-none i d b =
    no-scan-line (codes "instructions=" ++ decimal i) (codes "depth=" ++ decimal d)
    (codes "budget=" ++ decimal b) (decimal-free 32 i no-space) (decimal-free 32 d no-space) refl

-- what is known of a run
pub record KnownRun (first : State) (past : List PastEvent) (report : Report) : Type 0 where
  pub small : report.budget < 2 ^ 64
  pub ids : HaveIds first.switches
  pub within : EachPast IsWithin first past

pub known-run : (parts : ScenarioParts) (first : State) (text : List ℕ) (status : ℕ)
    (run : IsRun parts first text status) → KnownRun first run.past run.printed.report
known-run parts first text status run =
    let loaded = run.loaded in
    let c : Checked = loaded.made.checked in
    let typed = typed-of loaded.bay.points loaded.made.program c loaded.made.passes in
    let longest : IsBudget loaded.image.code run.printed.report.budget =
    subst (λ (s : State). IsBudget s.machine.image.code run.printed.report.budget) loaded.is
    run.printed.reported.budget in
    record {
      small = budget-small c loaded.image run.printed.report.budget typed loaded.made.compiles
          (image-is c loaded.image loaded.made.compiles) longest;
      ids = subst (λ (s : State). HaveIds s.switches) (sym loaded.is)
          (bay-named parts.bay loaded.bay loaded.read);
      within = (past-does IsWithin (Runs c) (step-within c) first run.past
          (loaded-runs parts.bay parts.logic first loaded) run.steps).0;
    }
