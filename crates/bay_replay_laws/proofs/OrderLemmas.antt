-- Where a line stands in the text of a run: behind the line of the load, among those of an event.
use Rattle.std.proofs.Common.{◌≡◌, ℕ, ◌<◌, ◌≤◌, ◌^◌, List, [], ◌∷◌, ◌++◌, codes, length, Option, Some, None, Result, Ok, Err, ◌⊎◌, inl, inr, refl, ap, ap₂, sym, subst, ◌∙◌, append_assoc, arith}
use Rattle.std.specs.Fmt.{decimal}
use Rattle.std.specs.List.{Contains}
use Rattle.bay_device.specs.Device.{State}
use Rattle.bay_device.specs.Fresh.{PastEvent}
use Rattle.bay_device.specs.Outcomes.{last_moment}
use Rattle.bay_device.specs.Steps.{Steps}
use Rattle.bay_device.specs.declared.event.Step.{Step}
use Rattle.bay_device.specs.declared.fault.StepFault.{StepFault}
use Rattle.bay_device.specs.Load.{device_of}
use Rattle.bay_load.specs.declared.error.LoadError.{LoadError}
use Rattle.bay_load.specs.declared.error.LoadError.TheVariants.{OutOfMemory}
use Rattle.bay_load.specs.declared.report.Report.{Report}
use Rattle.bay_report.specs.Lines.{step_text}
use Rattle.bay_load.specs.Loads.{LoadData, load_of}
use Rattle.cmd_replay.specs.Replay.{LoadedTraceReport, PartsReport}
use Rattle.cmd_replay.specs.Scenario.{ScenarioParts, scenario_of}
use Rattle.cmd_replay.specs.History.{EachPast, device_after}
use Rattle.bay_replay_laws.specs.Printed.{PrintedCommand, with_ends, lines_in, printed_command}
use Rattle.bay_replay_laws.specs.ReadBack.{HaveIds, switches_digits}
use Rattle.bay_replay_laws.specs.Released.{IsCommandLineFor}
use Rattle.bay_replay_laws.specs.Reports.{HasNoLine, HoldsOfRun, OfEachReport}
use Rattle.cmd_replay.specs.Runs.{IsRun, past_text}
use Rattle.cmd_replay.proofs.HistoryLemmas.{past-fixed}
use Rattle.cmd_replay.proofs.KeptLemmas.{step-on-time}
use Rattle.cmd_replay.proofs.RunLemmas.{run-loaded, run-of}
use Rattle.bay_replay_laws.proofs.LineLemmas.{AreLines, Each, decimal-free, each-append, each-line, ended-append, lines-are}
use Rattle.bay_replay_laws.proofs.NameLemmas.{name-plain}
use Rattle.bay_replay_laws.proofs.PlaceLemmas.{AreGroups, Groups, Placed, cut, flat, groups-whole, heads, placed, tails}
use Rattle.bay_replay_laws.proofs.PrintLemmas.{IsCommandLine, IsLineOf, id-at, load-is, step-lines}
use Rattle.bay_replay_laws.proofs.ReadLemmas.{IsOther, command-read, load_line, no-command-line, no-space, told_text}
use Rattle.bay_replay_laws.proofs.ScanLemmas.{past-in, some-same}
use Rattle.bay_replay_laws.proofs.WithinLemmas.{ending-lines, known-run, load-free, no-parts-lines, refused-lines}

-- the lines of all events
past-groups : (first : State) (past : List PastEvent) → EachPast Steps first past
    → HaveIds first.switches → (gs : Groups) × AreGroups past gs
past-groups first [] steps ids = ([], tt)
past-groups first (p ∷ past) steps ids =
    let before = past-groups first past steps.1 ids in
    let here =
    step-lines p.now p.answer p.after
    (subst HaveIds (sym (past-fixed first (p ∷ past) steps).switches) ids) in
    (here.lines ∷ before.0, (record { whole = here.whole; each = here.each }, before.1))

-- ---- where lines stand

module _ (begin load : List ℕ) (load_is : begin ≡ load ++ 10 ∷ []) where
  behind-is : (past : List PastEvent) (gs : Groups) (part : List (List ℕ)) → AreGroups past gs
      → with_ends (load ∷ (flat gs ++ part)) ≡ begin ++ (past_text past ++ with_ends part)
  behind-is past gs part are =
      ap (λ t. load ++ 10 ∷ t) (ended-append (flat gs) part
      ∙ ap (λ t. t ++ with_ends part) (sym (groups-whole past gs are)))
      ∙ sym (append_assoc load (10 ∷ []) (past_text past ++ with_ends part))
      ∙ ap (λ t. t ++ (past_text past ++ with_ends part)) (sym load_is)

  pub printed-for : (p : PastEvent) (earlier : List PastEvent) (gs : Groups)
      (part rest : List (List ℕ))
      (line : List ℕ) → AreGroups earlier gs
      → step_text p.now p.answer p.after ≡ with_ends (part ++ line ∷ rest)
      → IsCommandLineFor begin p earlier (load ∷ (flat gs ++ part)) line
  printed-for p earlier gs part rest line are own = record {
    part = with_ends part;
    rest = with_ends rest;
    own = own ∙ ended-append part (line ∷ rest);
    behind = behind-is earlier gs part are;
  }

-- ---- what a command's line says

module _ (first : State) (past : List PastEvent) (steps : EachPast Steps first past)
    (ids : HaveIds first.switches) (before : List (List ℕ)) (line : List ℕ)
    (at : Placed past before line)
    (l : IsCommandLine at.order.now at.order.answer at.order.after line) where
  pub order-steps : EachPast Steps first (at.order ∷ at.earlier)
  order-steps = past-in Steps first at.later at.order at.earlier past at.split steps

  pub order-switches : at.order.after.switches ≡ first.switches
  order-switches = (past-fixed first (at.order ∷ at.earlier) order-steps).switches

  abbrev pub order_said : PrintedCommand
  order_said = record { moment = at.order.now; id = l.switch.id; operation = l.command.operation }

  -- It is read as the command of the event.
  pub order-read : (command : PrintedCommand) → printed_command line ≡ Some command
      → order_said ≡ command
  order-read command reads =
      let late : at.order.now ≤ last_moment =
      step-on-time at.order.now at.order.event (device_after first at.earlier) at.order.answer
      at.order.after l.step order-steps.0 l.done in
      let early : at.order.now < 2 ^ 64 = omega arith in
      let named =
      id-at at.order.after.switches l.command.switch l.switch
      (subst HaveIds (sym order-switches) ids) l.here in
      some-same order_said command
      (sym (ap printed_command l.is
      ∙ command-read at.order.now l.switch.id l.command.operation early
      (name-plain 16 l.switch.id named))
      ∙ reads)

-- ---- the text of a run

pub each-none : (Is : List ℕ → Type 0) (lines : List (List ℕ)) → Each Is lines
    → Each (λ l. Unit {0}) lines
each-none Is [] all = tt
each-none Is (line ∷ lines) all = ((all.0.0, tt), each-none Is lines all.1)

flat-each : (past : List PastEvent) (gs : Groups) → AreGroups past gs
    → Each (λ l. Unit {0}) (flat gs)
flat-each [] [] are = tt
flat-each [] (g ∷ gs) are = absurd are
flat-each (p ∷ past) [] are = absurd are
flat-each (p ∷ past) (g ∷ gs) are =
    each-append (λ l. Unit {0}) (flat gs) g (flat-each past gs are.1) (each-none _ g are.0.each)

each-other : (lines part after : List (List ℕ)) (line : List ℕ) → Each IsOther lines
    → lines ≡ part ++ line ∷ after → IsOther line
each-other lines part after line each e = at part (subst (λ ls. Each IsOther ls) e each)
  where
    at : (part : List (List ℕ)) → Each IsOther (part ++ line ∷ after) → IsOther line
    at [] all = all.0.1
    at (x ∷ part) all = at part all.1

-- Before a line stands the line of the load, and it is one of those of an event.
pub record Standing (load : List ℕ) (past : List PastEvent) (before : List (List ℕ)) (line : List ℕ)
    : Type 0 where
  pub behind : List (List ℕ)
  pub begins : before ≡ load ∷ behind
  pub at : Placed past behind line

module _ (parts : ScenarioParts) (first : State) (text : List ℕ) (status : ℕ)
    (run : IsRun parts first text status) where
  abbrev pub report : Report
  report = run.printed.report

  abbrev pub load : List ℕ
  load = load_line report.instructions report.depth report.budget

  text-lines : (gs : Groups) → AreGroups run.past gs → (others : List (List ℕ))
      → Each IsOther others → run.printed.ending ≡ with_ends others
      → lines_in text ≡ load ∷ (flat gs ++ (others ++ [] ∷ []))
  text-lines gs are others each is =
      let rest : List (List ℕ) = flat gs ++ others in
      let whole : text ≡ with_ends (load ∷ rest) =
      run.printed.whole
      ∙ ap₂ (λ x y. x ++ y) (load-is report)
      (ap₂ (λ x y. x ++ y) (groups-whole run.past gs are) is ∙ sym (ended-append (flat gs) others))
      ∙ append_assoc load (10 ∷ []) (with_ends rest) in
      ap lines_in whole
      ∙ lines-are (λ l. Unit {0}) (load ∷ rest) (
        (load-free report.instructions report.depth report.budget, tt),
        each-append (λ l. Unit {0}) (flat gs) others (flat-each run.past gs are)
            (each-none IsOther others each),
      )
      ∙ ap (λ ls. load ∷ ls) (append_assoc (flat gs) others ([] ∷ []))

-- lines that are read to something, as no other line and no line of a load is
module _ {A : Type 0} (read : List ℕ → Option A)
    (other_none : (line : List ℕ) → IsOther line → read line ≡ None)
    (load_none : (i d b : ℕ) → read (load_line i d b) ≡ None) where
  pub no-read : {B : Type 0} (line : List ℕ) (x : A) → read line ≡ None → read line ≡ Some x → B
  no-read line x none is =
      absurd (let no : ◌≡◌ {A = Option A} None (Some x) = sym none ∙ is in cc)

  by-place : (r : Report) (past : List PastEvent) (gs : Groups) (rest before after : List (List ℕ))
      (line : List ℕ) (x : A) → read line ≡ Some x → AreGroups past gs → Each IsOther rest
      → load_line r.instructions r.depth r.budget ∷ (flat gs ++ rest)
      ≡ before ++ line ∷ after
      → Standing (load_line r.instructions r.depth r.budget) past before line
  by-place r past gs rest [] after line x reads are others e =
      no-read line x (subst (λ l. read l ≡ None) (heads _ line (flat gs ++ rest) after e)
      (load_none r.instructions r.depth r.budget)) reads
  by-place r past gs rest (y ∷ before) after line x reads are others e =
      elim (cut (flat gs) rest before after line
      (tails _ y (flat gs ++ rest) (before ++ line ∷ after) e)) [
        | inl f ↦ record {
          behind = before;
          begins = ap (λ l. l ∷ before)
              (sym (heads _ y (flat gs ++ rest) (before ++ line ∷ after) e));
          at = placed past gs before f.rest line are f.first;
        }
        | inr s ↦
            no-read line x (other_none line (each-other rest s.part after line others s.second))
            reads
      ]

  -- Each such line of the text of a run stands so.
  pub stands : (parts : ScenarioParts) (first : State) (text : List ℕ) (status : ℕ)
      (run : IsRun parts first text status) (before after : List (List ℕ)) (line : List ℕ) (x : A)
      → lines_in text ≡ before ++ line ∷ after → read line ≡ Some x
      → Standing (load parts first text status run) run.past before line
  stands parts first text status run before after line x e reads =
      let known = known-run parts first text status run in
      let groups = past-groups first run.past run.steps known.ids in
      let ending =
      ending-lines (length run.printed.lines) run.printed.rest run.printed.ending status
      run.printed.ends in
      let rest : List (List ℕ) = ending.lines ++ [] ∷ [] in
      let others : Each IsOther rest =
      each-append IsOther ending.lines ([] ∷ []) ending.each
      ((refl, record { no_scan = refl; no_command = refl }), tt) in
      by-place run.printed.report run.past groups.0 rest before after line x reads groups.1 others
      (sym (text-lines parts first text status run groups.0 groups.1 ending.lines ending.each
      ending.whole) ∙ e)

  -- ---- a report

  none-read : (text : List ℕ) → AreLines IsOther text
      → (line : List ℕ) → Contains (lines_in text) line → read line ≡ None
  none-read text lines line at =
      let other : IsOther line =
      each-line lines (record { no_scan = refl; no_command = refl }) line at in
      other_none line other

  -- what is so of the text of each run, and of one that has no such line
  module _ (Are : (parts : ScenarioParts) (first : State) (text : List ℕ) (status : ℕ)
      → IsRun parts first text status → Type 0)
      (run-are : (parts : ScenarioParts) (first : State) (text : List ℕ) (status : ℕ)
      (run : IsRun parts first text status) → Are parts first text status run) where
    abbrev OfReport : List ℕ → List ℕ → ℕ → Type 0
    OfReport scenario text status = HasNoLine read text ⊎ HoldsOfRun Are scenario text status

    by-load : (scenario : List ℕ) (parts : ScenarioParts) (log : Option (List ℕ))
        (text : List ℕ) (status : ℕ) (loaded : Result LoadData LoadError)
        → scenario_of scenario ≡ Some parts
        → load_of parts.bay parts.logic ≡ loaded
        → LoadedTraceReport loaded parts.trace log text status
        → OfReport scenario text status
    by-load scenario parts log text status (Ok l) cut is reported =
        let first : State = device_of l in
        let run : IsRun parts first text status =
        run-of parts.bay parts.logic first (run-loaded parts.bay parts.logic l is) parts.trace log
        text status reported in
        inr (record {
          parts = parts;
          cut = cut;
          first = first;
          run = run;
          are = run-are parts first text status run;
        })
    by-load scenario parts log text status (Err fault) cut is reported =
        inl (none-read text (subst (AreLines IsOther) (sym reported.1.0) (refused-lines fault)))

    by-parts : (scenario : List ℕ) (o : Option ScenarioParts) (log : Option (List ℕ))
        (text : List ℕ) (status : ℕ)
        → scenario_of scenario ≡ o → PartsReport o log text status → OfReport scenario text status
    by-parts scenario None log text status cut reported =
        inl (none-read text (subst (AreLines IsOther) (sym reported.1.0) no-parts-lines))
    by-parts scenario (Some parts) log text status cut (inl reported, run) =
        by-load scenario parts log text status (load_of parts.bay parts.logic) cut refl reported
    by-parts scenario (Some parts) log text status cut (inr refused, run) =
        inl (none-read text
        (subst (AreLines IsOther) (sym refused.1.0) (refused-lines OutOfMemory)))

    pub of-each : OfEachReport read Are
    of-each scenario log text status reported =
        by-parts scenario (scenario_of scenario) log text status refl reported

-- ---- the line of a command

pub load-no-command : (i d b : ℕ) → printed_command (load_line i d b) ≡ None
load-no-command i d b =
    no-command-line (codes "instructions=" ++ decimal i) (codes "depth=" ++ decimal d)
    (codes "budget=" ++ decimal b) (decimal-free 32 i no-space) (decimal-free 32 d no-space) refl

pub other-no-command : (line : List ℕ) → IsOther line → printed_command line ≡ None
other-no-command line other = other.no_command

-- It is the line of a command of the event that it stands with.
pub of-command : (now : ℕ) (answer : Result Step StepFault) (s : State) (line : List ℕ)
    (command : PrintedCommand) → printed_command line ≡ Some command → IsLineOf now answer s line
    → IsCommandLine now answer s line
of-command now answer s line command reads (inl scan) =
    no-read printed_command other-no-command load-no-command line command
    (ap printed_command scan.is
    ∙ no-command-line (decimal now) (codes "scan")
    ((codes "steps=" ++ decimal scan.steps) ++ told_text (switches_digits s 0 s.switches))
    (decimal-free 32 now no-space) refl refl) reads
of-command now answer s line command reads (inr (inl l)) = l
of-command now answer s line command reads (inr (inr other)) =
    no-read printed_command other-no-command load-no-command line command other.no_command reads
