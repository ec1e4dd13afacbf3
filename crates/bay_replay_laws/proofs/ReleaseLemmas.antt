-- Before each line of a command stands that of a scan that releases it.
use Rattle.std.proofs.Common.{◌≡◌, ◌≢◌, ℕ, zero, suc, ◌+◌, ◌<◌, ◌≤◌, ◌^◌, true, List, [], ◌∷◌, ◌++◌, codes, slice_get, All, Option, Some, None, Result, Ok, Err, IfOk, inl, inr, refl, ap, ap₂, sym, subst, ◌∙◌, append_assoc, append-nil, arith}
use Rattle.std.proofs.lemmas.List.Elements.{All-append, All-contains, All-from_recursion}
use Rattle.std.specs.Fmt.{decimal}
use Rattle.std.specs.List.{AllByRecursion, Contains}
use Rattle.bay_base.specs.declared.switch.Operation.{Operation}
use Rattle.bay_base.specs.declared.switch.Operation.TheVariants as operations
use Rattle.bay_nodes.specs.declared.switch.Switch.{Switch}
use Rattle.bay_process.specs.Values.{is_truth}
use Rattle.bay_process.proofs.ToldLemmas.{Keeps}
use Rattle.bay_mms_services.specs.Released.{enable_name}
use Rattle.bay_mms_services.specs.declared.answer.Command.{Command}
use Rattle.bay_tree.specs.Rows.{leaf_named}
use Rattle.bay_device.specs.Commands.{AreCommanded, CommandsReleased, IsReleasedAt}
use Rattle.bay_device.specs.Device.{State, device_at, expiry_report, run_result_at}
use Rattle.bay_device.specs.Fresh.{HasScan, IsFresh, PastEvent}
use Rattle.bay_device.specs.LookUps.{may_close, may_open}
use Rattle.bay_device.specs.Outcomes.{last_moment}
use Rattle.bay_device.specs.Steps.{Steps}
use Rattle.bay_device.specs.declared.event.Sent.{Sent}
use Rattle.bay_device.specs.declared.event.Step.{Step}
use Rattle.bay_device.specs.declared.fault.StepFault.{StepFault}
use Rattle.bay_report.specs.Lines.{ended_text, scan_text, step_text}
use Rattle.bay_report.specs.Report.{report_text}
use Rattle.cmd_replay.specs.Scenario.{ScenarioParts}
use Rattle.cmd_replay.specs.History.{AllFresh, EachPast, device_after}
use Rattle.bay_replay_laws.specs.Printed.{PrintedCommand, PrintedSwitch, with_ends, printed_command, printed_scan}
use Rattle.bay_replay_laws.specs.ReadBack.{HaveIds, switches_digits}
use Rattle.bay_replay_laws.specs.Released.{AreReleased, CommandsAreReleased, IsCommandLineFor, IsReleasedBy, releases_operation}
use Rattle.cmd_replay.specs.Runs.{IsRun}
use Rattle.cmd_replay.proofs.HistoryLemmas.{past-fixed}
use Rattle.cmd_replay.proofs.KeptLemmas.{scan_told, step-on-time, turned}
use Rattle.bay_replay_laws.proofs.LineLemmas.{Each, decimal-free, each-append, ended-append}
use Rattle.bay_replay_laws.proofs.PlaceLemmas.{AreGroups, Groups, OneGroup, Placed, flat, one-group, same-lines}
use Rattle.bay_replay_laws.proofs.PrintLemmas.{IsCommandLine, IsLineOf, ended-lines, load-is, scan-free, scan-is, told-plain}
use Rattle.bay_replay_laws.proofs.ReadLemmas.{no-scan-line, no-space, order_word, scan-read, scan_line}
use Rattle.bay_replay_laws.proofs.ScanLemmas.{LastScan, fresh-at, last-scan, past-in, same-since}
use Rattle.bay_replay_laws.proofs.WithinLemmas.{AreFew, known-run, past-few}
use Rattle.bay_replay_laws.proofs.OrderLemmas.{each-none, load, load-no-command, of-command, of-each, order-read, order-steps, order-switches, other-no-command, printed-for, stands}

-- ---- freshness

fresh-in : (age : ℕ) (later : List PastEvent) (p : PastEvent) (earlier past : List PastEvent)
    → past ≡ later ++ p ∷ earlier → AllFresh age past → IsFresh p.now age earlier p.answer
fresh-in age later p earlier past split all = at later (subst (AllFresh age) split all)
  where
    at : (later : List PastEvent) → AllFresh age (later ++ p ∷ earlier)
        → IsFresh p.now age earlier p.answer
    at [] all = all.0
    at (x ∷ later) all = at later all.1

-- ---- the values in a scan's line

told-at : (s : State) (j k : ℕ) (switches : List Switch) (switch : Switch)
    → slice_get switches k ≡ Some switch
    → Contains (switches_digits s j switches)
    (record { id = switch.id; opens = may_open s (j + k); closes = may_close s (j + k) })
told-at s j k [] switch here = absurd cc
told-at s j zero (x ∷ switches) switch here =
    let same : x ≡ switch = cc in
    let there : j + 0 ≡ j = omega arith in (
      0,
      omega arith,
      ap₂ (λ (y : Switch) (n : ℕ). let p : PrintedSwitch =
          record { id = y.id; opens = may_open s n; closes = may_close s n } in p) same
          (sym there),
    )
told-at s j (suc k) (x ∷ switches) switch here =
    let there : j + 1 + k ≡ j + suc k = omega arith in
    let later =
    subst (λ n. Contains (switches_digits s (j + 1) switches)
    (record { id = switch.id; opens = may_open s n; closes = may_close s n })) there
    (told-at s (j + 1) k switches switch here) in
    (suc later.0, omega (arith, later.1), later.2)

told-first : (s : State) (k : ℕ) (switches : List Switch) (switch : Switch)
    → slice_get switches k ≡ Some switch
    → Contains (switches_digits s 0 switches)
    (record { id = switch.id; opens = may_open s k; closes = may_close s k })
told-first s k switches switch here =
    let there : 0 + k ≡ k = omega arith in
    subst (λ n. Contains (switches_digits s 0 switches)
    (record { id = switch.id; opens = may_open s n; closes = may_close s n })) there
    (told-at s 0 k switches switch here)

released-as : (s t : State) (id : List ℕ) (k : ℕ) (operation : Operation) → Keeps s.rows t.rows
    → is_truth true (leaf_named (enable_name k operation) t.rows) ≡ true
    → releases_operation operation
    (record { id = id; opens = may_open s k; closes = may_close s k }) ≡ true
released-as s t id k operations.Open keeps enabled = ap (is_truth true) (sym (keeps k _)) ∙ enabled
released-as s t id k operations.Close keeps enabled = ap (is_truth true) (sym (keeps k _)) ∙ enabled

-- ---- the lines of a scan

scan-alone : (e t : List ℕ) → e ++ [] ++ [] ++ t ++ [] ≡ e ++ t
scan-alone e t = simp append-nil

-- the answer of a scan
abbrev scan_answer : Option Sent → ℕ → Result Step StepFault
scan_answer ended steps = Ok (record {
  ended = ended;
  sent = [];
  commands = [];
  decisions = [];
  closed = None;
  scan = Some steps;
})

-- What is printed for a scan is what tells of an end, and its line.
record ScanLines (q : PastEvent) (steps : ℕ) (own : List (List ℕ)) : Type 0 where
  before : List (List ℕ)
  is : own ≡ before ++ scan_line q.now steps (switches_digits q.after 0 q.after.switches) ∷ []

scan-lines : (q : PastEvent) (ended_by : Option Sent) (steps : ℕ) (own : List (List ℕ))
    → HaveIds q.after.switches → q.answer ≡ scan_answer ended_by steps
    → step_text q.now q.answer q.after ≡ with_ends own
    → Each (λ line. IsLineOf q.now q.answer q.after line) own → ScanLines q steps own
scan-lines q ended_by steps own ids answered whole each =
    let line : List ℕ = scan_line q.now steps (switches_digits q.after 0 q.after.switches) in
    let first = ended-lines q.now q.answer q.after ids ended_by in
    let all = told-plain q.after 0 q.after.switches ids in
    let text : step_text q.now q.answer q.after ≡ with_ends (first.lines ++ line ∷ []) =
    ap (λ r. step_text q.now r q.after) answered
    ∙ scan-alone (ended_text q.now ended_by) (scan_text q.now steps q.after)
    ∙ ap₂ (λ x y. x ++ y) first.whole (scan-is q.now steps q.after)
    ∙ sym (ended-append first.lines (line ∷ [])) in
    record {
      before = first.lines;
      is = same-lines _ (λ l. Unit {0}) own (first.lines ++ line ∷ []) each
          (each-append (λ l. Unit {0}) first.lines (line ∷ []) (each-none _ first.lines first.each)
          ((scan-free q.now steps (switches_digits q.after 0 q.after.switches) all, tt), tt))
          (sym whole ∙ text);
    }

-- ---- a command

-- what is known of a history
record Known (age : ℕ) (first : State) (past : List PastEvent) : Type 0 where
  steps : EachPast Steps first past
  ids : HaveIds first.switches
  unscanned : first.last_scan ≡ None
  aged : first.scan_max_age_ms ≡ age
  commanded : EachPast CommandsReleased first past
  fresh : AllFresh first.scan_max_age_ms past
  few : EachPast AreFew first past

not-none : {A : Type 0} (xs : List A) (x : A) → Contains xs x → xs ≢ []
not-none [] x at none = omega (arith, at.1)
not-none (y ∷ xs) x at none = cc

-- no scan was done for this answer
abbrev NoneDone : Result Step StepFault → Type 0
NoneDone answer = IfOk answer (λ step. step.scan ≡ None)

none-told : (r : Result Step StepFault) → scan_told r ≡ None → NoneDone r
none-told (Ok step) none = none
none-told (Err fault) none = tt

all-none : (ps : List PastEvent) → AllByRecursion (λ (p : PastEvent). scan_told p.answer ≡ None) ps
    → AllByRecursion (λ (p : PastEvent). NoneDone p.answer) ps
all-none [] none = none
all-none (p ∷ ps) none = (none-told p.answer none.0, all-none ps none.1)

-- ---- the lines between

abbrev NoScan : List ℕ → Type 0
NoScan line = printed_scan line ≡ None

no-scan-of : (p : PastEvent) (line : List ℕ) → scan_told p.answer ≡ None
    → IsLineOf p.now p.answer p.after line → NoScan line
no-scan-of p line none (inl scan) =
    absurd (let no : ◌≡◌ {A = Option ℕ} None (Some scan.steps) = sym none ∙ scan.reported in cc)
no-scan-of p line none (inr (inl l)) =
    ap printed_scan l.is
    ∙ no-scan-line (decimal p.now) (codes "command")
    (l.switch.id ++ 32 ∷ order_word l.command.operation) (decimal-free 32 p.now no-space) refl refl
no-scan-of p line none (inr (inr other)) = other.no_scan

no-scans-of : (p : PastEvent) (lines : List (List ℕ)) → scan_told p.answer ≡ None
    → Each (λ line. IsLineOf p.now p.answer p.after line) lines → All NoScan lines
no-scans-of p lines none each = All-from_recursion NoScan lines (at lines each)
  where
    at : (lines : List (List ℕ)) → Each (λ line. IsLineOf p.now p.answer p.after line) lines
        → AllByRecursion NoScan lines
    at [] each = tt
    at (line ∷ lines) each = (no-scan-of p line none each.0.1, at lines each.1)

no-scans : (past : List PastEvent) (gs : Groups) → AreGroups past gs
    → AllByRecursion (λ (p : PastEvent). scan_told p.answer ≡ None) past → All NoScan (flat gs)
no-scans [] [] are none = All-from_recursion NoScan [] tt
no-scans [] (g ∷ gs) are none = absurd are
no-scans (p ∷ past) [] are none = absurd are
no-scans (p ∷ past) (g ∷ gs) are none =
    All-append NoScan (flat gs) g (no-scans past gs are.1 none.1)
    (no-scans-of p g none.0 are.0.each)

abbrev commands_told : Result Step StepFault → List Command
commands_told (Ok step) = step.commands
commands_told (Err fault) = []

-- an event with a command is no scan
ordered-no-scan : (p : PastEvent) (old : State) → Steps p.now p.event old p.answer p.after
    → (step : Step) (command : Command) → p.answer ≡ Ok step → Contains step.commands command
    → scan_told p.answer ≡ None
ordered-no-scan p old steps step command done has =
    elim (turned p.now p.event old p.answer p.after steps) [
      | inl quiet ↦ quiet.0
      | inr scan ↦
          absurd (not-none step.commands command has
          (ap commands_told (sym done ∙ scan.answered)))
    ]

regroup : {A : Type 0} (a b : List A) (x : A) (c d : List A)
    → ((a ++ (b ++ x ∷ [])) ++ c) ++ d ≡ (a ++ b) ++ x ∷ (c ++ d)
regroup a b x c d = simp append_assoc

module _ (age : ℕ) (first : State) (past : List PastEvent) (known : Known age first past)
    (begin load : List ℕ) (load_is : begin ≡ load ++ 10 ∷ []) where
  command-released : (before : List (List ℕ)) (line : List ℕ) (at : Placed past before line)
      (l : IsCommandLine at.order.now at.order.answer at.order.after line)
      → (command : PrintedCommand) → printed_command line ≡ Some command
      → IsReleasedBy age begin past (load ∷ before) line command
  command-released before line at l command reads =
      let order : PastEvent = at.order in
      let earlier : List PastEvent = at.earlier in
      let old : State = device_after first earlier in
      let here : EachPast Steps first (order ∷ earlier) =
      order-steps first past known.steps known.ids before line at l in
      let commanded : CommandsReleased order.now order.event old order.answer order.after =
      (past-in CommandsReleased first at.later order earlier past at.split known.commanded).0 in
      let are : AreCommanded order.now old l.step =
      subst (λ (r : Result Step StepFault). IfOk r (AreCommanded order.now old)) l.done commanded in
      let rel : IsReleasedAt order.now old l.command =
      All-contains (IsReleasedAt order.now old) l.step.commands l.command are.released l.has in
      let f = fresh-at order.now old rel.fresh in
      let s : LastScan first earlier f.0 =
      last-scan first earlier f.0 known.unscanned here.1 f.1 in
      let fresh : IsFresh order.now first.scan_max_age_ms earlier order.answer =
      fresh-in first.scan_max_age_ms at.later order earlier past at.split known.fresh in
      let has : HasScan order.now first.scan_max_age_ms earlier =
      subst (λ (r : Result Step StepFault). IsFresh order.now first.scan_max_age_ms earlier r)
      l.done fresh (not-none l.step.commands l.command l.has) in
      let unchanged =
      same-since first earlier order.now first.scan_max_age_ms f.0 here.1 has s in
      let q : PastEvent = s.scan in
      let old_q : State = device_after first s.earlier in
      let scans : EachPast Steps first (q ∷ s.earlier) =
      past-in Steps first s.since q s.earlier earlier s.split here.1 in
      let steps : ℕ = (run_result_at q.now (device_at q.now old_q)).steps in
      let reported : scan_told q.answer ≡ Some steps = ap scan_told s.done.answered in
      let few : steps < 2 ^ 64 =
      (past-in AreFew first s.since q s.earlier earlier s.split
      (past-in AreFew first at.later order earlier past at.split known.few).1).0 steps reported in
      let late : q.now ≤ last_moment =
      step-on-time q.now q.event old_q q.answer q.after _ scans.0 s.done.answered in
      let switches : q.after.switches ≡ first.switches =
      (past-fixed first (q ∷ s.earlier) scans).switches in
      let ids : HaveIds q.after.switches = subst HaveIds (sym switches) known.ids in
      let g : OneGroup s.since q s.earlier at.groups =
      one-group s.since q s.earlier at.groups
      (subst (λ ps. AreGroups ps at.groups) s.split at.are) in
      let lines : ScanLines q steps g.own =
      scan-lines q (expiry_report q.now old_q) steps g.own ids s.done.answered g.is.whole g.is.each
      in
      let k : ℕ = l.command.switch in
      let switch_is : slice_get q.after.switches k ≡ Some l.switch =
      ap (λ ss. slice_get ss k) (switches
      ∙ sym (order-switches first past known.steps known.ids before line at l)) ∙ l.here in
      let place : before ≡ (flat g.others ++ lines.before)
      ++ scan_line q.now steps (switches_digits q.after 0 q.after.switches)
      ∷ (flat g.between ++ at.part) =
      at.behind
      ∙ ap (λ ls. ls ++ at.part) (g.split
      ∙ ap (λ o. (flat g.others ++ o) ++ flat g.between) lines.is)
      ∙ regroup (flat g.others) lines.before
      (scan_line q.now steps (switches_digits q.after 0 q.after.switches)) (flat g.between)
      at.part in
      subst (IsReleasedBy age begin past (load ∷ before) line)
      (order-read first past known.steps known.ids before line at l command reads)
      (record {
        later = at.later;
        order = order;
        since = s.since;
        scan = q;
        earlier = s.earlier;
        split = at.split ∙ ap (λ ps. at.later ++ order ∷ ps) s.split;
        ordered = subst (λ ps. IsCommandLineFor begin order ps (load ∷ before) line) s.split
            (subst (λ ls. IsCommandLineFor begin order earlier (load ∷ ls) line) (sym at.behind)
            (printed-for begin load load_is order earlier at.groups at.part at.rest line at.are
            at.own));
        scanned = s.done.event_is;
        front = load ∷ (flat g.others ++ lines.before);
        reported = scan_line q.now steps (switches_digits q.after 0 q.after.switches);
        back = flat g.between ++ at.part;
        lines = ap (λ ls. load ∷ ls) place;
        printed = printed-for begin load load_is q s.earlier g.others lines.before []
            (scan_line q.now steps (switches_digits q.after 0 q.after.switches)) g.are
            (g.is.whole ∙ ap with_ends lines.is);
        read = record {
          moment = q.now;
          steps = steps;
          switches = switches_digits q.after 0 q.after.switches;
        };
        is = scan-read q.now steps (switches_digits q.after 0 q.after.switches) (small late) few
            (told-plain q.after 0 q.after.switches ids);
        releases =
            record {
              switch = record {
                id = l.switch.id;
                opens = may_open q.after k;
                closes = may_close q.after k;
              };
              reported = told-first q.after k q.after.switches l.switch switch_is;
              same = refl;
              released =
                  released-as q.after old l.switch.id k l.command.operation s.keeps rel.enabled;
            };
        recent =
            (let aged : old.scan_max_age_ms ≡ first.scan_max_age_ms =
            (past-fixed first earlier here.1).age in
            let is : first.scan_max_age_ms ≡ age = known.aged in
            let at_scan : q.now ≡ f.0 = s.at in
            let recent : order.now ≤ f.0 + old.scan_max_age_ms = f.2 in
            omega arith);
        last = All-from_recursion (λ (p : PastEvent). NoneDone p.answer) s.since
            (all-none s.since s.none);
        last_line = All-append NoScan (flat g.between) at.part
            (no-scans s.since g.between g.ours s.none) (no-scans-of order at.part
            (ordered-no-scan order old here.0 l.step l.command l.done l.has) at.fore);
        unchanged = unchanged;
      })
    where
      small : {n : ℕ} → n ≤ last_moment → n < 2 ^ 64
      small less = omega arith

run-released : (parts : ScenarioParts) (first : State) (text : List ℕ) (status : ℕ)
    (run : IsRun parts first text status) → AreReleased parts first text status run
run-released parts first text status run before after line command e reads =
    let o =
    stands printed_command other-no-command load-no-command parts first text status run before after
    line command e reads in
    let l =
    of-command o.at.order.now o.at.order.answer o.at.order.after line command reads o.at.is in
    let known = known-run parts first text status run in
    let age = run.loaded.bay.scan_max_age_ms in
    let begin = report_text run.printed.report in
    let line_of_load = load parts first text status run in
    subst (λ ls. IsReleasedBy age begin run.past ls line command) (sym o.begins)
    (command-released age first run.past
    (record {
      steps = run.steps;
      ids = known.ids;
      unscanned = ap (λ (s : State). s.last_scan) run.loaded.is;
      aged = ap (λ (s : State). s.scan_max_age_ms) run.loaded.is;
      commanded = run.guarded.commanded;
      fresh = run.guarded.fresh;
      few = past-few first run.printed.report.budget known.small known.ids
          run.printed.reported.budget run.past run.steps known.within;
    })
    begin line_of_load (load-is run.printed.report) o.behind line o.at l command reads)

pub commands-are-released : CommandsAreReleased
commands-are-released =
    of-each printed_command other-no-command load-no-command AreReleased run-released
