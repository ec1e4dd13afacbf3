-- The events of a replay are of their types, and its commands obey what an audit answers.
use Rattle.std.proofs.Common.{◌≡◌, ◌<◌, ◌++◌, ℕ, Bool, All, List, [], ◌∷◌, length, slice_get, Option, None, Some, Result, Ok, Err, IfOk, refl, ap, sym, subst, ◌∙◌}
use Rattle.std.specs.List.{Contains}
use Rattle.std.specs.Prelude.{IfSome}
use Rattle.std.proofs.lemmas.List.Elements.{All-contains}
use Rattle.bay_audit.specs.Rules.{program_of}
use Rattle.bay_audit_hazards.specs.Judged.{is_hazard_of}
use Rattle.bay_audit_laws.specs.Laws.{CommandsAreHarmlessAt, CommandsObeyAt, CommandsOutsideAt, IsAllowed, IsOfType, IsOutside, ScanObeysAt}
use Rattle.bay_audit_laws.proofs.LawLemmas.{IsRefusedWhere, rule-refuses}
use Rattle.bay_base.specs.declared.switch.Operation.{Operation}
use Rattle.bay_config.specs.Laws.{IsBay}
use Rattle.bay_config.specs.declared.bay.Bay.{Bay}
use Rattle.bay_device.specs.Device.{State}
use Rattle.bay_device.specs.Fresh.{PastEvent}
use Rattle.bay_device.specs.declared.event.Event.{Event}
use Rattle.bay_device.specs.declared.event.Step.{Step}
use Rattle.bay_device.specs.declared.fault.StepFault.{StepFault}
use Rattle.cmd_replay.specs.History.{EachPast, device_after}
use Rattle.cmd_replay.specs.Runs.{AreLineEvents, IsRun}
use Rattle.cmd_replay.specs.Scenario.{ScenarioParts}
use Rattle.bay_report.specs.Report.{report_text}
use Rattle.bay_load.specs.Loads.{IsImageOf, parsed_bay}
use Rattle.bay_load.specs.declared.load.Form.TheVariants.{Logic}
use Rattle.bay_diagram.specs.declared.network.Network.{Network}
use Rattle.il_image.specs.Images.{Image}
use Rattle.bay_replay_laws.specs.Printed.{PrintedCommand, lines_in, printed_command}
use Rattle.bay_replay_laws.specs.Released.{IsCommandLineFor}
use Rattle.bay_replay_laws.proofs.OrderLemmas.{load, load-no-command, of-command, order-read, order-switches, other-no-command, printed-for, stands}
use Rattle.bay_replay_laws.proofs.PrintLemmas.{load-is}
use Rattle.bay_replay_laws.proofs.ScanLemmas.{past-in}
use Rattle.bay_replay_laws.proofs.WithinLemmas.{known-run}
use Rattle.bay_audit_rules.specs.Process.{Process, holds}
use Rattle.bay_audit_rules.specs.declared.rule.Rule.{Rule}
use Rattle.bay_audit_rules.specs.declared.rule.RuleKind.TheVariants.{Never}
use Rattle.bay_audit_rules.specs.declared.rule.Timing.{Timing}
use Rattle.bay_mms_services.specs.declared.answer.Command.{Command}
use Rattle.bay_trace.specs.Trace.{LineData, at_moment}
use Rattle.cmd_audit_laws.specs.Audited.{ByTimer, IsAudited, IsHeldByAudit, Plainly}
use Rattle.cmd_audit_laws.specs.Replayed.{IsIssued, LinesAvoid, ReplayedCommandsObey}
use Rattle.cmd_audit_laws.specs.Waits.{PastWaits}
use Rattle.cmd_audit_laws.proofs.AuditLemmas.{Begins, audited, held, plain-rule, right-rule, right-timer, text-begins}
use Rattle.cmd_audit_laws.proofs.IdLemmas.{ids-apart}
use Rattle.cmd_audit_laws.proofs.ObeyLemmas.{AreTypedPast, Good, good-first, past-avoids, past-scans}
use Rattle.cmd_audit_laws.proofs.TypeLemmas.{LineFits, line-fits, placed-fits}
use Rattle.cmd_audit_laws.proofs.WaitLemmas.{Ready, past-waits, ready-first}

pub lines-typed : (first : State) (past : List PastEvent) (lines : List (List ℕ))
    → AreLineEvents first past lines
    → EachPast (λ now event old answer new. IsOfType event) first past
lines-typed first [] lines are = tt
lines-typed first (p ∷ past) lines are =
    let last = are.1 in
    let fits : LineFits (at_moment p.now last.named) =
    subst (λ (o : Option LineData). IfSome o LineFits) last.reads (line-fits last.line) in (
      subst IsOfType (sym last.event) (placed-fits (device_after first past) last.named fits),
      lines-typed first past are.0 are.2,
    )

-- ---- lines

-- the command of an event is one of which this is so
issued-so : (set : Process → Bool) (k : ℕ) (operation : Operation) (now : ℕ) (event : Event)
    (old new : State) (answer : Result Step StepFault) (step : Step) (command : Command)
    → answer ≡ Ok step → Contains step.commands command
    → CommandsOutsideAt set k operation now event old answer new
    → IsOutside set k operation old command
issued-so set k operation now event old new answer step command is has avoids =
    All-contains (IsOutside set k operation old) step.commands command
    (subst (λ (r : Result Step StepFault). IfOk r
    (λ step. All (IsOutside set k operation old) step.commands)) is avoids) has

module _ (parts : ScenarioParts) (first : State) (text : List ℕ) (status : ℕ)
    (run : IsRun parts first text status) where
  run-issued : (before after : List (List ℕ)) (line : List ℕ) (printed : PrintedCommand)
      → lines_in text ≡ before ++ line ∷ after → printed_command line ≡ Some printed
      → IsIssued (report_text run.printed.report) first run.past before line printed
  run-issued before after line printed e reads =
      let o =
      stands printed_command other-no-command load-no-command parts first text status run before
      after line printed e reads in
      let at = o.at in
      let l =
      of-command at.order.now at.order.answer at.order.after line printed reads at.is in
      let ids = (known-run parts first text status run).ids in
      let begin = report_text run.printed.report in
      let line_of_load = load parts first text status run in
      subst (λ ls. IsIssued begin first run.past ls line printed) (sym o.begins)
      (subst (IsIssued begin first run.past (line_of_load ∷ o.behind) line)
      (order-read first run.past run.steps ids o.behind line at l printed reads)
      (record {
        later = at.later;
        order = at.order;
        earlier = at.earlier;
        split = at.split;
        ordered = subst (λ ls. IsCommandLineFor begin at.order at.earlier (line_of_load ∷ ls) line)
            (sym at.behind)
            (printed-for begin line_of_load (load-is run.printed.report) at.order at.earlier
            at.groups at.part at.rest line at.are at.own);
        moment = refl;
        step = l.step;
        answered = l.done;
        command = l.command;
        issued = l.has;
        switch = l.switch;
        here = ap (λ ss. slice_get ss l.command.switch)
            (sym (order-switches first run.past run.steps ids o.behind line at l)) ∙ l.here;
        named = refl;
        operation = refl;
      }))

  lines-avoid : (own : Bay) → IsBay own → first.switches ≡ own.switches → (set : Process → Bool)
      (k : ℕ) (operation : Operation)
      → EachPast (CommandsOutsideAt set k operation) first run.past
      → LinesAvoid set k operation (report_text run.printed.report) first run.past text
  lines-avoid own is of_bay set k operation each before after line printed e reads =
      let i = run-issued before after line printed e reads in
      let here = (past-in (CommandsOutsideAt set k operation) first i.later i.order i.earlier
      run.past i.split each).0 in
      let old : State = device_after first i.earlier in (
        i,
        λ switch there named on.
            issued-so set k operation i.order.now i.order.event old i.order.after i.order.answer
            i.step i.command i.answered i.issued here
            (ids-apart own is i.command.switch k i.switch switch
            (ap (λ ss. slice_get ss i.command.switch) (sym of_bay) ∙ i.here)
            (ap (λ ss. slice_get ss k) (sym of_bay) ∙ there) (i.named ∙ named))
            (i.operation ∙ on),
      )

  -- ---- runs

  typed-past : AreTypedPast first run.past
  typed-past = lines-typed first run.past run.printed.lines run.printed.events

  -- a program that octets come to, and the device at its begin
  module _ (own : Bay) (image : Image) (read : parsed_bay parts.bay ≡ Ok own)
      (made : IsImageOf Logic parts.logic own image) where
    begun : Begins own image first
    begun = text-begins parts.bay parts.logic first run.loaded run.runs own image read made

    good : Good own image begun.sound first
    good = subst (Good own image begun.sound) (sym begun.is)
        (good-first own image begun.sound begun.steady)

    run-avoids : (set : Process → Bool) (k : ℕ) (operation : Operation) → k < length own.switches
        → IsRefusedWhere (program_of own image) set k operation
        → EachPast (CommandsOutsideAt set k operation) first run.past
        × LinesAvoid set k operation (report_text run.printed.report) first run.past text
    run-avoids set k operation there refused =
        let each = past-avoids own image begun.sound set k operation there refused first run.past
        run.steps typed-past good in (
          each,
          lines-avoid own begun.sound (ap (λ (s : State). s.switches) begun.is) set k operation
              each,
        )

  rule-avoids : (rules : List ℕ) (rule : Rule) → rule.kind ≡ Never
      → IsAudited Plainly parts.bay Logic parts.logic rules rule
      → EachPast (CommandsOutsideAt (holds rule.when) rule.switch rule.operation) first run.past
      × LinesAvoid (holds rule.when) rule.switch rule.operation (report_text run.printed.report)
      first run.past text
  rule-avoids rules rule never is =
      let o = audited parts.bay Logic parts.logic Plainly rule rules is in
      run-avoids o.own o.image o.read o.made (holds rule.when) rule.switch rule.operation o.there
      (rule-refuses (program_of o.own o.image) rule
      (right-rule (program_of o.own o.image) rule o.answer never o.how o.right) never)

  run-scans : (rules : List ℕ) (rule : Rule) → rule.timed ≡ None
      → IsAudited Plainly parts.bay Logic parts.logic rules rule
      → EachPast (ScanObeysAt rule) first run.past
  run-scans rules rule plain is =
      let o = audited parts.bay Logic parts.logic Plainly rule rules is in
      past-scans o.own o.image (begun o.own o.image o.read o.made).sound rule o.there
      (plain-rule (program_of o.own o.image) rule o.answer plain o.how o.right) first run.past
      run.steps typed-past (good o.own o.image o.read o.made)

  run-harmless : (diagram : List ℕ) (net : Network) (k : ℕ) (operation : Operation)
      → IsHeldByAudit parts.bay Logic parts.logic diagram net k operation
      → EachPast (CommandsAreHarmlessAt net k operation) first run.past
      × LinesAvoid (is_hazard_of net k operation) k operation (report_text run.printed.report)
      first run.past text
  run-harmless diagram net k operation is =
      let o = held parts.bay Logic parts.logic net k operation diagram is in
      run-avoids o.own o.image o.read o.made (is_hazard_of net k operation) k operation o.there
      o.harmless

  run-waits : (rules : List ℕ) (rule : Rule) (timing : Timing) → rule.kind ≡ Never
      → rule.timed ≡ Some timing → IsAudited ByTimer parts.bay Logic parts.logic rules rule
      → PastWaits rule timing first run.past
  run-waits rules rule timing never timed is =
      let own = audited parts.bay Logic parts.logic ByTimer rule rules is in
      let b = begun own.own own.image own.read own.made in
      let borne = right-timer (program_of own.own own.image) rule timing own.answer never timed
      own.how own.right in
      (past-waits own.own own.image rule timing borne.timer b.sound own.there borne.bears first
      run.past run.steps typed-past
      (subst (Ready own.own own.image rule timing borne.timer b.sound own.there borne.bears [])
      (sym b.is)
      (ready-first own.own own.image rule timing borne.timer b.sound own.there borne.bears
      b.steady))).0

-- commands that are issued outside the set of a rule's condition obey the rule
obeys-so : (rule : Rule) (first : State) (past : List PastEvent)
    → EachPast (CommandsOutsideAt (holds rule.when) rule.switch rule.operation) first past
    → EachPast (CommandsObeyAt rule) first past
obeys-so rule first [] each = tt
obeys-so rule first (p ∷ past) each =
    (allowed-so (device_after first past) p.answer each.0, obeys-so rule first past each.1)
  where
    allowed-so : (old : State) (answer : Result Step StepFault) → IfOk answer
        (λ step. All (IsOutside (holds rule.when) rule.switch rule.operation old) step.commands)
        → IfOk answer (λ step. All (IsAllowed rule old) step.commands)
    allowed-so old (Ok step) all = λ k d lt never. all k d lt
    allowed-so old (Err fault) all = tt

pub replayed-obey : ReplayedCommandsObey
replayed-obey parts first text status run = record {
  obey = λ rules rule never is. obeys-so rule first run.past
      (rule-avoids parts first text status run rules rule never is).0;
  lines = λ rules rule never is. (rule-avoids parts first text status run rules rule never is).1;
  wait = run-waits parts first text status run;
  scans = run-scans parts first text status run;
  harmless = run-harmless parts first text status run;
}
