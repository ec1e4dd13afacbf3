-- Each line of a scan tells what the text of the program means.
use Rattle.std.proofs.Common.{◌≡◌, ℕ, ◌+◌, ◌<◌, ◌≤◌, ◌^◌, Bool, true, false, List, [], ◌∷◌, ◌++◌, codes, length, map, Option, Some, None, Result, IfOk, inl, inr, refl, ap, ap₂, sym, subst, ◌∙◌, arith, zero, suc}
use Rattle.std.specs.Fmt.{decimal}
use Rattle.bay_audit_laws.proofs.LoadLemmas.{first-both}
use Rattle.bay_audit_laws.proofs.RowLemmas.{AllBoth, outputs-told, told-both, told_by}
use Rattle.bay_config.specs.Laws.{IsBay}
use Rattle.bay_base.specs.declared.point.Source.{Source}
use Rattle.bay_base.specs.declared.point.SwitchPoint.TheVariants.{EnableOpen, EnableClose}
use Rattle.bay_nodes.specs.declared.switch.Switch.{Switch}
use Rattle.bay_process.specs.ReportedRows.{HoldsRelease}
use Rattle.bay_process.specs.Values.{is_truth, output_of, with_outputs}
use Rattle.bay_process.proofs.ToldLemmas.{Keeps}
use Rattle.bay_tree.specs.declared.leaf.Leaf.TheVariants as leaf
use Rattle.bay_tree.specs.declared.row.Row.{Row}
use Rattle.il_check.specs.Program.{Checked}
use Rattle.il_compile.specs.Compiled.{point_of}
use Rattle.il_image.specs.declared.value.Value.{Value}
use Rattle.il_scan.specs.Scans.{outputs_of}
use Rattle.bay_device.specs.Device.{State, device_at}
use Rattle.bay_device.specs.Fresh.{PastEvent}
use Rattle.bay_device.specs.Meaning.{Means, MeansAt}
use Rattle.bay_device.specs.Outcomes.{last_moment}
use Rattle.bay_device.specs.Steps.{Steps}
use Rattle.bay_device.specs.declared.event.Step.{Step}
use Rattle.bay_device.specs.declared.fault.StepFault.{StepFault}
use Rattle.bay_report.specs.Report.{report_text}
use Rattle.cmd_replay.specs.History.{EachPast, device_after}
use Rattle.cmd_replay.specs.Runs.{IsRun}
use Rattle.cmd_replay.specs.Scenario.{ScenarioParts}
use Rattle.cmd_replay.proofs.HistoryLemmas.{past-fixed}
use Rattle.cmd_replay.proofs.KeptLemmas.{Scanned, scan_told, step-on-time, turned}
use Rattle.bay_device.proofs.LoadedLemmas.{file-sound}
use Rattle.bay_replay_laws.specs.Meant.{AreMeant, AreValues, IsMeant, ScansAreMeant}
use Rattle.bay_replay_laws.specs.Printed.{PrintedScan, PrintedSwitch, printed_scan, lines_in, printed_budget}
use Rattle.bay_replay_laws.specs.ReadBack.{HaveIds, switches_digits}
use Rattle.bay_replay_laws.specs.Released.{IsCommandLineFor}
use Rattle.bay_replay_laws.proofs.LineLemmas.{decimal-free}
use Rattle.bay_replay_laws.proofs.OrderLemmas.{load, no-read, of-each, printed-for, stands}
use Rattle.bay_replay_laws.proofs.PlaceLemmas.{Placed}
use Rattle.bay_replay_laws.proofs.PrintLemmas.{IsLineOf, IsScanLine, load-is, told-plain}
use Rattle.bay_replay_laws.proofs.ReadLemmas.{IsOther, no-scan-line, no-space, order_word, scan-read, budget-read}
use Rattle.bay_replay_laws.proofs.ScanLemmas.{past-in, some-same}
use Rattle.bay_replay_laws.proofs.WithinLemmas.{AreFew, known-run, load-none, past-few}
use Rattle.std.specs.List.{Contains}
use Rattle.il_verify.specs.Verdicts.{IsBudget}
use Rattle.bay_replay_laws.specs.Texts.{AreWithinBudget, ScansAreWithinBudget, first_line}
use Rattle.cmd_replay.proofs.BudgetLemmas.{IsWithin}

-- ---- the rows of the interlocking values stand

both-kept : (rows new : List Row) (count : ℕ) → Keeps rows new → AllBoth rows count
    → AllBoth new count
both-kept rows new count keeps all k less =
    let both = all k less in
    record {
      opening =
          record {
            value_there = λ none. both.opening.value_there (sym (keeps k _) ∙ none);
            quality_there = λ none. both.opening.quality_there (sym (keeps k _) ∙ none);
          };
      closing =
          record {
            value_there = λ none. both.closing.value_there (sym (keeps k _) ∙ none);
            quality_there = λ none. both.closing.quality_there (sym (keeps k _) ∙ none);
          };
    }

scan-told : (s : State) (outputs : List Value) (now count : ℕ) → count ≤ 32
    → length s.switches ≡ count → AllBoth s.rows count → (k : ℕ) → k < count
    → HoldsRelease (with_outputs s.switches s.writes outputs now 0 s.switches s.rows) k
    (told_by s.writes outputs k)
scan-told s outputs now count few many both k less =
    outputs-told s.switches s.writes outputs now count few 0 s.switches s.rows both
    (omega (arith, many)) k less (λ none. absurd (omega arith)) (omega (arith, many, less))

past-both : (first : State) (past : List PastEvent) → length first.switches ≤ 32
    → AllBoth first.rows (length first.switches) → EachPast Steps first past
    → AllBoth (device_after first past).rows (length first.switches)
past-both first [] few both steps = both
past-both first (p ∷ past) few both steps =
    let count : ℕ = length first.switches in
    let old : State = device_after first past in
    let before : AllBoth old.rows count = past-both first past few both steps.1 in
    elim (turned p.now p.event old p.answer p.after steps.0) [
      | inl quiet ↦ both-kept old.rows p.after.rows count quiet.1.interlocking before
      | inr scan ↦
          (let many : length old.switches ≡ count =
          ap (λ (ss : List Switch). length ss) (past-fixed first past steps.1).switches in
          subst (λ (s : State). AllBoth s.rows count) (sym scan.left)
          (λ k less. told-both _ k _ (scan-told (device_at p.now old) _ p.now count few many before
          k less)))
    ]

-- ---- the values of a scan

own-truth : (b : Bool) → is_truth true (Some (leaf.Truth b)) ≡ b
own-truth true = refl
own-truth false = refl

are-values : (s : State) (writes : List Source) (outputs : List Value) (k : ℕ)
    (switches : List Switch)
    → ((j : ℕ) → j < k + length switches → HoldsRelease s.rows j (told_by writes outputs j))
    → AreValues writes outputs k switches (switches_digits s k switches)
are-values s writes outputs k [] reported = refl
are-values s writes outputs k (switch ∷ switches) reported =
    let here = reported k (omega arith) in (
      switches_digits s (k + 1) switches,
      ap₂ (λ (opens closes : Bool). let p : PrintedSwitch =
          record { id = switch.id; opens = opens; closes = closes } in
          p ∷ switches_digits s (k + 1) switches)
          (ap (is_truth true) here.opening.value_is
          ∙ own-truth (output_of k EnableOpen writes outputs))
          (ap (is_truth true) here.closing.value_is
          ∙ own-truth (output_of k EnableClose writes outputs)),
      are-values s writes outputs (k + 1) switches (λ j less. reported j (omega (arith, less))),
    )

scan-of : (now : ℕ) (steps : ℕ) (p : PastEvent) (old : State)
    → Steps p.now p.event old p.answer p.after → scan_told p.answer ≡ Some steps
    → Scanned p.now p.event old p.answer p.after
scan-of now steps p old did reported = elim (turned p.now p.event old p.answer p.after did) [
  | inl quiet ↦
      absurd (let no : ◌≡◌ {A = Option ℕ} None (Some steps) = sym quiet.0 ∙ reported in cc)
  | inr scan ↦ scan
]

module _ (first : State) (past : List PastEvent) (steps : EachPast Steps first past)
    (ids : HaveIds first.switches) (few : EachPast AreFew first past) where
  abbrev scan_said : (p : PastEvent) → ℕ → PrintedScan
  scan_said p count = record {
    moment = p.now;
    steps = count;
    switches = switches_digits p.after 0 p.after.switches;
  }

  -- A scan's line is read as what it tells.
  scan-reads : (before : List (List ℕ)) (line : List ℕ) (at : Placed past before line)
      (l : IsScanLine at.order.now at.order.answer at.order.after line) (read : PrintedScan)
      → printed_scan line ≡ Some read → scan_said at.order l.steps ≡ read
  scan-reads before line at l read reads =
      let p : PastEvent = at.order in
      let here : EachPast Steps first (p ∷ at.earlier) =
      past-in Steps first at.later p at.earlier past at.split steps in
      let scan =
      scan-of p.now l.steps p (device_after first at.earlier) here.0 l.reported in
      let small : l.steps < 2 ^ 64 =
      (past-in AreFew first at.later p at.earlier past at.split few).0 l.steps l.reported in
      let late : p.now ≤ last_moment =
      step-on-time p.now p.event (device_after first at.earlier) p.answer p.after _ here.0
      scan.answered in
      let early : p.now < 2 ^ 64 = omega arith in
      some-same (scan_said p l.steps) read
      (sym (ap printed_scan l.is
      ∙ scan-read p.now l.steps (switches_digits p.after 0 p.after.switches) early small
      (told-plain p.after 0 p.after.switches (subst HaveIds
      (sym (past-fixed first (p ∷ at.earlier) here).switches) ids))) ∙ reads)

module _ (c : Checked) (first : State) (past : List PastEvent) (steps : EachPast Steps first past)
    (ids : HaveIds first.switches) (few : EachPast AreFew first past)
    (means : EachPast (MeansAt c) first past) (most : length first.switches ≤ 32)
    (both : AllBoth first.rows (length first.switches)) (begin load_text : List ℕ)
    (load_is : begin ≡ load_text ++ 10 ∷ []) where
  scan-meant : (before : List (List ℕ)) (line : List ℕ) (at : Placed past before line)
      (l : IsScanLine at.order.now at.order.answer at.order.after line) (read : PrintedScan)
      → printed_scan line ≡ Some read → IsMeant c begin first past (load_text ∷ before) line read
  scan-meant before line at l read reads =
      let p : PastEvent = at.order in
      let old : State = device_after first at.earlier in
      let here : EachPast Steps first (p ∷ at.earlier) =
      past-in Steps first at.later p at.earlier past at.split steps in
      let scan : Scanned p.now p.event old p.answer p.after =
      scan-of p.now l.steps p old here.0 l.reported in
      let meant_at : MeansAt c p.now p.event old p.answer p.after =
      (past-in (MeansAt c) first at.later p at.earlier past at.split means).0 in
      let meant : Means c p.now old p.after =
      subst (λ (r : Result Step StepFault). IfOk r (λ step. Means c p.now old p.after))
      scan.answered (meant_at scan.event_is) in
      let fixed = past-fixed first at.earlier here.1 in
      let switches : p.after.switches ≡ first.switches =
      (past-fixed first (p ∷ at.earlier) here).switches in
      let outputs : List Value = outputs_of (map point_of c.externals) meant.after.externals in
      let count : ℕ = length first.switches in
      let many : length old.switches ≡ count =
      ap (λ (ss : List Switch). length ss) fixed.switches in
      let rows : (j : ℕ) → j < count
      → HoldsRelease p.after.rows j (told_by first.writes outputs j) =
      λ j less. subst (λ (ws : List Source). HoldsRelease p.after.rows j (told_by ws outputs j))
      fixed.writes
      (subst (λ (rs : List Row). HoldsRelease rs j (told_by old.writes outputs j)) (sym meant.rows)
      (scan-told old outputs p.now count most many
      (past-both first at.earlier most both here.1) j less)) in
      let values : AreValues first.writes outputs 0 first.switches
      (switches_digits p.after 0 first.switches) =
      are-values p.after first.writes outputs 0 first.switches
      (λ j less. rows j (omega (arith, less)))
      in
      subst (IsMeant c begin first past (load_text ∷ before) line)
      (scan-reads first past steps ids few before line at l read reads)
      (record {
        later = at.later;
        scan = p;
        earlier = at.earlier;
        split = at.split;
        printed = subst (λ ls. IsCommandLineFor begin p at.earlier (load_text ∷ ls) line)
            (sym at.behind)
            (printed-for begin load_text load_is p at.earlier at.groups at.part at.rest line at.are
            at.own);
        scanned = scan.event_is;
        moment = refl;
        after = meant.after;
        means = meant.is;
        values = subst (λ (ss : List Switch). AreValues first.writes outputs 0 first.switches
            (switches_digits p.after 0 ss)) (sym switches) values;
      })

-- ---- the text of a run

other-no-scan : (line : List ℕ) → IsOther line → printed_scan line ≡ None
other-no-scan line other = other.no_scan

of-scan : (now : ℕ) (answer : Result Step StepFault) (s : State) (line : List ℕ)
    (read : PrintedScan) → printed_scan line ≡ Some read → IsLineOf now answer s line
    → IsScanLine now answer s line
of-scan now answer s line read reads (inl l) = l
of-scan now answer s line read reads (inr (inl order)) =
    no-read printed_scan other-no-scan load-none line read
    (ap printed_scan order.is
    ∙ no-scan-line (decimal now) (codes "command") (order.switch.id ++ 32 ∷ order_word
    order.command.operation) (decimal-free 32 now no-space) refl refl) reads
of-scan now answer s line read reads (inr (inr other)) =
    no-read printed_scan other-no-scan load-none line read other.no_scan reads

run-meant : (parts : ScenarioParts) (first : State) (text : List ℕ) (status : ℕ)
    (run : IsRun parts first text status) → AreMeant parts first text status run
run-meant parts first text status run before after line read e reads =
    let o =
    stands printed_scan other-no-scan load-none parts first text status run before after line read e
    reads in
    let l =
    of-scan o.at.order.now o.at.order.answer o.at.order.after line read reads o.at.is in
    let known = known-run parts first text status run in
    let bay : IsBay run.loaded.bay = file-sound parts.bay run.loaded.bay run.loaded.read in
    let begin = report_text run.printed.report in
    let most : length first.switches ≤ 32 =
    subst (λ (s : State). length s.switches ≤ 32) (sym run.loaded.is) bay.few_switches in
    let both : AllBoth first.rows (length first.switches) =
    subst (λ (s : State). AllBoth s.rows (length s.switches)) (sym run.loaded.is)
    (first-both run.loaded.bay bay) in
    subst (λ ls. IsMeant run.loaded.made.checked begin first run.past ls line read) (sym o.begins)
    (scan-meant run.loaded.made.checked first run.past run.steps known.ids
    (past-few first run.printed.report.budget known.small known.ids run.printed.reported.budget
    run.past run.steps known.within)
    (run.guarded.means run.loaded.made.checked run.runs) most both begin
    (load parts first text status run)
    (load-is run.printed.report) o.behind line o.at l read reads)

pub scans-are-meant : ScansAreMeant
scans-are-meant = of-each printed_scan other-no-scan load-none AreMeant run-meant

-- ---- the budget

-- an item of a list stands between others
item-split : {A : Type 0} (xs : List A) (x : A) → Contains xs x
    → (front : List A) × ((back : List A) × (xs ≡ front ++ x ∷ back))
item-split [] x at = absurd (omega (arith, at.1))
item-split (y ∷ xs) x (zero, within, is) = ([], (xs, ap (λ z. z ∷ xs) is))
item-split (y ∷ xs) x (suc k, within, is) =
    let there = item-split xs x (k, omega arith, is) in
    (y ∷ there.0, (there.1.0, ap (λ ys. y ∷ ys) there.1.1))

run-within : (parts : ScenarioParts) (first : State) (text : List ℕ) (status : ℕ)
    → IsRun parts first text status → AreWithinBudget text
run-within parts first text status run line scan at is =
    let cut = item-split (lines_in text) line at in
    let o =
    stands printed_scan other-no-scan load-none parts first text status run cut.0 cut.1.0 line scan
    cut.1.1 is in
    let order = o.at.order in
    let l = of-scan order.now order.answer order.after line scan is o.at.is in
    let known = known-run parts first text status run in
    let report = run.printed.report in
    let few = past-few first report.budget known.small known.ids run.printed.reported.budget
    run.past run.steps known.within in
    let steps =
    past-in Steps first o.at.later order o.at.earlier run.past o.at.split run.steps in
    let within : l.steps ≤ report.budget =
    (past-in IsWithin first o.at.later order o.at.earlier run.past o.at.split known.within).0
    l.steps l.reported report.budget
    (subst (λ image. IsBudget image.code report.budget)
    (sym (past-fixed first o.at.earlier steps.1).image) run.printed.reported.budget) in (
      report.budget,
      ap (λ ls. printed_budget (first_line ls))
          (cut.1.1 ∙ ap (λ ls. ls ++ line ∷ cut.1.0) o.begins)
          ∙ budget-read report.instructions report.depth report.budget known.small,
      subst (λ n. n ≤ report.budget)
          (ap (λ (x : PrintedScan). x.steps)
          (scan-reads first run.past run.steps known.ids few o.behind line o.at l scan is)) within,
    )

pub scans-are-within : ScansAreWithinBudget
scans-are-within scenario log text status reported line scan at is =
    elim (of-each printed_scan other-no-scan load-none
    (λ parts first text status run. AreWithinBudget text) run-within scenario log text status
    reported) [
      | inl none ↦
          absurd (let no : ◌≡◌ {A = Option PrintedScan} None (Some scan) =
          sym (none line at) ∙ is in cc)
      | inr run ↦ run.are line scan at is
    ]
