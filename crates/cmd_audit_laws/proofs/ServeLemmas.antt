-- The turns that files are served by, and what they are given.
use Rattle.std.proofs.Common.{◌≡◌, ◌∙◌, ◌<◌, ℕ, zero, suc, Bool, List, [], length, Option, Some, None, Result, Ok, Err, inl, inr, ap, sym, subst, refl}
use Rattle.std.specs.Prelude.{MatchResult, slice_get}
use Rattle.bay_audit.specs.Rules.{program_of}
use Rattle.bay_cli.specs.declared.task.ServeOptions.{ServeOptions}
use Rattle.bay_cli.specs.declared.task.ServeTask.{ServeTask}
use Rattle.bay_device.specs.Device.{State}
use Rattle.bay_files.specs.Files.{ProtectedReads, FileReads, FilesData}
use Rattle.bay_io.specs.Calls.{WriteCall}
use Rattle.bay_io.specs.Watched.{WriterState}
use Rattle.bay_io.specs.declared.outbox.WriteFault.{WriteFault}
use Rattle.bay_process_port.specs.Ports.{initial_port}
use Rattle.bay_process_port.specs.Supervised.{SupervisionSettings}
use Rattle.bay_device.specs.Load.{LoadsDevice}
use Rattle.bay_load.specs.declared.load.Form.{Form}
use Rattle.bay_server_turn.specs.Calls.{Call}
use Rattle.bay_server_turn.specs.Recorded.{Recording}
use Rattle.bay_server_turn.specs.Turns.{ServerData}
use Rattle.bay_server.specs.Host.{HostCall}
use Rattle.bay_server.specs.Clock.{jump_of}
use Rattle.bay_server.specs.ServeReport.{AfterTurn, ProcessData, ServiceState, ServesTurns, moment_of}
use Rattle.bay_server.specs.declared.host.BindFault.{BindFault}
use Rattle.cmd_serve.specs.Live.{HoldsLater}
use Rattle.cmd_audit.specs.Judging.{IsVerdictOn}
use Rattle.cmd_audit.specs.JudgingDiagram.{IsDiagramVerdictOn}
use Rattle.cmd_audit.specs.declared.judging.RulesVerdict.{RulesVerdict}
use Rattle.cmd_audit.specs.declared.judging.RulesVerdict.TheVariants as judged
use Rattle.cmd_audit.specs.declared.judging_diagram.DiagramVerdict.{DiagramVerdict}
use Rattle.cmd_audit.specs.declared.judging_diagram.DiagramVerdict.TheVariants as drawn
use Rattle.cmd_serve.specs.Permits.{AfterPermit, WritesOnDiagram, WritesOnRules, permit_of, releases_held, rules_held}
use Rattle.cmd_serve.specs.Serve.{BindsPorts, BindsProcess, EndsUnserved, IsBound, LoadsFiles, ServesBound, ServesLoaded, ServesPorts, ServesRules, data_of, form_of, name_of, new_server, recording_of, served_of, state_of}
use Rattle.cmd_serve.specs.Service.{AreTurns, DoneTurn, later_turns, past_of, turns_in}
use Rattle.cmd_serve.proofs.HistoryLemmas.{stands-first}
use Rattle.cmd_serve.proofs.TurnLemmas.{stands-turns}
use Rattle.cmd_serve.specs.declared.serve.BoundServer.{BoundServer}
use Rattle.cmd_serve.specs.declared.serve.LoadedFiles.{LoadedFiles}
use Rattle.cmd_serve.specs.declared.serve.ServeStartFault.{ServeStartFault}
use Rattle.cmd_serve.specs.declared.serve.ServeStartFault.TheVariants as unserved
use Rattle.cmd_serve.specs.declared.permit.Permit.{Permit}
use Rattle.cmd_serve.specs.declared.permit.Permit.TheVariants.{Granted, Denied}
use Rattle.cmd_serve.specs.declared.sums.HeldCounts.{HeldCounts}
use Rattle.cmd_serve.specs.declared.sums.ServedFiles.{ServedFiles}
use Rattle.cmd_audit_laws.specs.Audited.{ByTimer, Plainly}
use Rattle.bay_audit_hazards.specs.Judged.{is_hazard_of}
use Rattle.bay_audit_laws.specs.Laws.{ScanObeysAt}
use Rattle.bay_audit_laws.proofs.LawLemmas.{IsRefusedWhere, rule-refuses}
use Rattle.bay_audit_rules.specs.Process.{Process, holds}
use Rattle.bay_base.specs.declared.switch.Operation.{Operation}
use Rattle.bay_config.specs.declared.bay.Bay.{Bay}
use Rattle.bay_load.specs.Loads.{IsImageOf, LoadData, parsed_bay}
use Rattle.il_image.specs.Images.{Image}
use Rattle.bay_audit_rules.specs.declared.rule.Rule.{Rule}
use Rattle.bay_audit_rules.specs.declared.rule.RuleKind.TheVariants.{Never}
use Rattle.bay_audit_rules.specs.declared.rule.Timing.{Timing}
use Rattle.cmd_replay.specs.History.{EachPast}
use Rattle.cmd_audit_laws.specs.Served.{InPermit, IsFile, ObeyAuditsOf, HoldsIfBound, HoldsIfRead, HoldsIfOpened, HoldsWithRules, OrdersAvoid, OrdersObey, ServedCommandsObey}
use Rattle.cmd_audit_laws.specs.Waits.{OrdersWait}
use Rattle.cmd_audit_laws.proofs.AuditLemmas.{OfOctets, audited, begins, held, plain-rule, right-rule, right-timer}
use Rattle.cmd_audit_laws.proofs.ObeyLemmas.{AreGiven, Good, good-first, past-scans, turns-avoid, turns-typed}
use Rattle.cmd_audit_laws.proofs.TypeLemmas.{choice-fits}
use Rattle.cmd_audit_laws.proofs.WaitLemmas.{Ready, ready-first, turns-wait}

later-given : (Ends Goes : Type 0) (reported : Result ℕ WriteFault)
    (rest : AfterTurn reported Ends Goes)
    (more : Goes → List DoneTurn) → ((goes : Goes) → AreGiven (more goes))
    → AreGiven (later_turns Ends Goes reported rest more)
later-given Ends Goes (Err fault) rest more each = tt
later-given Ends Goes (Ok status) goes more each = each goes

module _ {L H W : Type 0} (step : L → Call → L → Type 0) (acts : H → HostCall L → H → Type 0)
    (contents : W → Option (List ℕ)) (asks : W → WriteCall → W → Type 0) where
  pub turns-given : (turns : ℕ) (before : ServiceState L H) (old : WriterState W)
      (host : H) (new : WriterState W) (answer : Result ℕ WriteFault)
      (serves : ServesTurns step acts contents asks turns before old host new answer)
      → AreGiven (turns_in step acts contents asks turns before old host new answer serves)
  turns-given zero before old host new answer serves = tt
  turns-given (suc turns) before old host new answer (inl fails) = tt
  turns-given (suc turns) before old host new answer (inr did) = (
    choice-fits before.held.device (moment_of did.3.clocks before)
        (jump_of did.3.clocks before.clock) before.lines (slice_get before.lines 0)
        before.process,
    later-given _ _ did.2 did.4 _ (λ rest. turns-given turns rest.0 _ host new answer rest.2),
  )

-- ---- the server that is bound

module _ {L H : Type 0} (acts : H → HostCall L → H → Type 0) where
  is-made : (options : ServeOptions (List ℕ)) (s : State) (link : L)
      (process : Option (ProcessData L))
      (ports : BoundServer L) → IsBound options s link process (Ok ports)
      → ports.server ≡ new_server (recording_of options) s
  is-made options s link process ports (inl is) =
      let same : ports ≡ record {
        server = new_server (recording_of options) s;
        link = link;
        process = process;
      } = cc in
      ap (λ (b : BoundServer L). b.server) same
  is-made options s link process ports (inr is) =
      let no : (let r : Result (BoundServer L) ServeStartFault = Ok ports in r) ≡ Err is.0 = is.1 in
      absurd cc

  process-made : (task : ServeTask (List ℕ)) (settings : Option SupervisionSettings) (s : State)
      (link : L)
      (port : Option ℕ)
      (before after : H) (ports : BoundServer L)
      → BindsProcess acts task settings s link port before after (Ok ports)
      → ports.server ≡ new_server (recording_of task.options) s
  process-made task settings s link None before after ports binds =
      is-made task.options s link None ports binds.1
  process-made task settings s link (Some port) before after ports binds =
      by-had binds.0 binds.2
    where
      by-had : (had : Result L BindFault)
          → MatchResult had
          (λ other. IsBound task.options s link
          (Some (record { link = other; port = initial_port task.sends_releases settings; skips_left = 0 }))
          (Ok ports)) (λ fault. (let r : Result (BoundServer L) ServeStartFault = Ok ports in r)
          ≡ Err (unserved.Unbound port fault))
          → ports.server ≡ new_server (recording_of task.options) s
      by-had (Ok other) is =
          is-made task.options s link
          (Some (record { link = other; port = initial_port task.sends_releases settings; skips_left = 0 }))
          ports
          is
      by-had (Err fault) is = absurd cc

  pub ports-made : (task : ServeTask (List ℕ)) (settings : Option SupervisionSettings) (s : State)
      (before after : H)
      (ports : BoundServer L) → BindsPorts acts task settings s before after (Ok ports)
      → ports.server ≡ new_server (recording_of task.options) s
  ports-made task settings s before after ports (inr memory) = absurd (let e = memory.1 in cc)
  ports-made task settings s before after ports (inl binds) = by-had binds.0 binds.3
    where
      by-had : (had : Result L BindFault)
          → MatchResult had
          (λ link. BindsProcess acts task settings s link task.options.process binds.1 after
          (Ok ports))
          (λ fault. (after ≡ binds.1)
          × ((let r : Result (BoundServer L) ServeStartFault = Ok ports in r)
          ≡ Err (unserved.Unbound task.port fault)))
          → ports.server ≡ new_server (recording_of task.options) s
      by-had (Ok link) is =
          process-made task settings s link task.options.process binds.1 after ports is
      by-had (Err fault) is = absurd (let e = is.1 in cc)

-- ---- the rules that are answered to hold

-- a server of a device that these octets load to, in its turns
module _ (f : Form) (both : FilesData) (device : State)
    (loads : LoadsDevice both.bay f both.program device) (recording : Option Recording)
    (ts : List DoneTurn)
    (are : AreTurns (new_server recording device) ts) (given : AreGiven ts)
    (file : IsFile f both.program)
  where
    -- avoids a set in which a release of the program is refused
    pub orders-avoid : (own : Bay) (image : Image) → parsed_bay both.bay ≡ Ok own
        → IsImageOf f both.program own image
        → (set : Process → Bool) (k : ℕ) (operation : Operation)
        → k < length own.switches → IsRefusedWhere (program_of own image) set k operation
        → OrdersAvoid set k operation device (new_server recording device) [] ts
    orders-avoid own image read made set k operation there refused =
        let b = begins both.bay f both.program device loads file own image read made in
        turns-avoid own image b.sound set k operation there refused device
        (ap (λ (s : State). s.switches) b.is) ts (new_server recording device) [] are given
        (subst (Good own image b.sound) (sym b.is) (good-first own image b.sound b.steady))

    -- and obeys rules that are answered to hold
    module _ (rule : Rule) where
      pub orders-obey : rule.kind ≡ Never → OfOctets Plainly both.bay f both.program rule
          → OrdersObey rule device (new_server recording device) [] ts
      orders-obey never own =
          orders-avoid own.own own.image own.read own.made (holds rule.when) rule.switch
          rule.operation own.there
          (rule-refuses (program_of own.own own.image) rule
          (right-rule (program_of own.own own.image) rule own.answer never own.how own.right) never)

      pub orders-wait : (timing : Timing) → rule.kind ≡ Never → rule.timed ≡ Some timing
          → OfOctets ByTimer both.bay f both.program rule
          → OrdersWait rule timing device (new_server recording device) [] [] ts
      orders-wait timing never timed own =
          let b = begins both.bay f both.program device loads file own.own own.image own.read
          own.made
          in
          let borne = right-timer (program_of own.own own.image) rule timing own.answer never timed
          own.how own.right in
          turns-wait own.own own.image rule timing borne.timer b.sound own.there borne.bears device
          ts
          (new_server recording device) [] [] are given
          (subst (Ready own.own own.image rule timing borne.timer b.sound own.there borne.bears [])
          (sym b.is)
          (ready-first own.own own.image rule timing borne.timer b.sound own.there borne.bears
          b.steady))

      pub scans-obey : rule.timed ≡ None → OfOctets Plainly both.bay f both.program rule
          → EachPast (ScanObeysAt rule) device (past_of ts (new_server recording device) [])
      scans-obey plain own =
          let b = begins both.bay f both.program device loads file own.own own.image own.read
          own.made
          in
          let stands =
          stands-turns device ts (new_server recording device) []
          (stands-first device (own.own, own.image, b.is)) in
          past-scans own.own own.image b.sound rule own.there
          (plain-rule (program_of own.own own.image) rule own.answer plain own.how own.right) device
          (past_of ts (new_server recording device) []) stands.steps
          (turns-typed device ts (new_server recording device) [] are given tt)
          (subst (Good own.own own.image b.sound) (sym b.is)
          (good-first own.own own.image b.sound b.steady))

loaded-obeys : (f : Form) (both : FilesData) (device : State)
    → LoadsDevice both.bay f both.program device → (recording : Option Recording)
    → (ts : List DoneTurn)
    → AreTurns (new_server recording device) ts → AreGiven ts
    → ObeyAuditsOf f both (new_server recording device) ts
loaded-obeys f both device loads recording ts are given file = record {
  obey = λ rules rule never is. orders-obey f both device loads recording ts are given file rule
      never (audited both.bay f both.program Plainly rule rules is);
  wait = λ rules rule timing never timed is. orders-wait f both device loads recording ts are given
      file rule timing never timed (audited both.bay f both.program ByTimer rule rules is);
  scans = λ rules rule plain is. scans-obey f both device loads recording ts are given file rule
      plain (audited both.bay f both.program Plainly rule rules is);
  harmless = λ diagram net k operation is.
      let o = held both.bay f both.program net k operation diagram is in
      orders-avoid f both device loads recording ts are given file o.own o.image o.read o.made
      (is_hazard_of net k operation) k operation o.there o.harmless;
}

-- ---- rules and a diagram that hold

-- the rules hold, if there are some
abbrev pub RulesHold : LoadData → Option (List ℕ) → Type 0
RulesHold loaded None = Unit {0}
RulesHold loaded (Some text) = (count : ℕ) × IsVerdictOn loaded text (judged.Hold count)

-- the releases hold by the diagram, if there is one
abbrev pub DiagramHolds : LoadData → Option (List ℕ) → Type 0
DiagramHolds loaded None = Unit {0}
DiagramHolds loaded (Some text) = (count : ℕ) × IsDiagramVerdictOn loaded text (drawn.Hold count)

-- a permit is granted only if there is a number of what holds
held-of : (status : Result ℕ WriteFault) (held : Option ℕ) (count : ℕ)
    → permit_of status held ≡ Ok (Granted count) → held ≡ Some count
held-of (Ok status) (Some n) count granted =
    let same : n ≡ count = cc in ap (λ (x : ℕ). Some x) same
held-of (Ok status) None count granted = absurd cc
held-of (Err fault) held count granted = absurd cc

rules-of : (verdict : RulesVerdict) (count : ℕ) → rules_held verdict ≡ Some count
    → verdict ≡ judged.Hold count
rules-of (judged.Hold n) count held = let same : n ≡ count = cc in ap judged.Hold same
rules-of (judged.Unproved text) count held = absurd cc
rules-of (judged.Refused fault) count held = absurd cc
rules-of judged.OutOfMemory count held = absurd cc

releases-of : (verdict : DiagramVerdict) (count : ℕ) → releases_held verdict ≡ Some count
    → verdict ≡ drawn.Hold count
releases-of (drawn.Hold n) count held = let same : n ≡ count = cc in ap drawn.Hold same
releases-of (drawn.Unproved text) count held = absurd cc
releases-of (drawn.Refused fault) count held = absurd cc
releases-of drawn.OutOfMemory count held = absurd cc

module _ {W : Type 0} (contents : W → Option (List ℕ)) (asks : W → WriteCall → W → Type 0)
    (loaded : LoadData) where
  rules-hold : (rules : Option (List ℕ)) (old new : WriterState W)
      (permit : Result Permit WriteFault)
      → WritesOnRules contents asks loaded rules old new permit → (count : ℕ)
      → permit ≡ Ok (Granted count) → RulesHold loaded rules
  rules-hold None old new permit writes count granted = tt
  rules-hold (Some text) old new permit writes count granted = (
    count,
    subst (IsVerdictOn loaded text)
        (rules-of writes.verdict count
        (held-of writes.status (rules_held writes.verdict) count (sym writes.permits ∙ granted)))
        writes.is,
  )

  diagram-holds : (diagram : Option (List ℕ)) (old new : WriterState W)
      (permit : Result Permit WriteFault)
      → WritesOnDiagram contents asks loaded diagram old new permit → (count : ℕ)
      → permit ≡ Ok (Granted count) → DiagramHolds loaded diagram
  diagram-holds None old new permit writes count granted = tt
  diagram-holds (Some text) old new permit writes count granted = (
    count,
    subst (IsDiagramVerdictOn loaded text)
        (releases-of writes.verdict count
        (held-of writes.status (releases_held writes.verdict) count
        (sym writes.permits ∙ granted))) writes.is,
  )

-- ---- the turns of a service

module _ {L H W : Type 0} (step : L → Call → L → Type 0) (acts : H → HostCall L → H → Type 0)
    (contents : W → Option (List ℕ)) (asks : W → WriteCall → W → Type 0) where
  pub later-is : (Ends Goes : Type 0) (reported : Result ℕ WriteFault)
      (rest : AfterTurn reported Ends Goes)
      (Is : Goes → Type 0) → ((goes : Goes) → Is goes) → HoldsLater Ends Goes reported rest Is
  later-is Ends Goes (Err fault) rest Is each = tt
  later-is Ends Goes (Ok status) goes Is each = each goes

  -- what is so of all turns of a server of this device
  module _ (Is : ServerData → List DoneTurn → Type 0) (loaded : LoadedFiles)
      (each : (recording : Option Recording) (ts : List DoneTurn)
      → AreTurns (new_server recording (state_of loaded)) ts → AreGiven ts
      → Is (new_server recording (state_of loaded)) ts) (task : ServeTask (List ℕ)) where
    bound-is : (served : ServedFiles) (settings : Option SupervisionSettings)
        (before host after : H) (old new : WriterState W) (answer : Result ℕ WriteFault)
        (bound : Result (BoundServer L) ServeStartFault)
        → BindsPorts acts task settings (state_of loaded) before host bound
        → (goes : MatchResult bound
        (λ ports. ServesBound step acts contents asks task served ports loaded.trace.items host
        after old new answer)
        (λ why. EndsUnserved contents asks why old new answer × (after ≡ host)))
        → HoldsIfBound step acts contents asks Is task served loaded.trace.items host after old
        new
        answer bound goes
    bound-is served settings before host after old new answer (Ok ports) binds goes =
        let run = goes.5 in
        let made : ports.server ≡ new_server (recording_of task.options) (state_of loaded) =
        ports-made acts task settings (state_of loaded) before host ports binds in
        let given : AreGiven run.done =
        subst AreGiven (sym run.are)
        (turns-given step acts contents asks task.turns _ _ after new answer run.serves) in
        subst (λ (h : ServerData). Is h run.done) (sym made)
        (each (recording_of task.options) run.done
        (subst (λ (h : ServerData). AreTurns h run.done) made run.run.are) given)
    bound-is served settings before host after old new answer (Err why) binds goes = tt

    pub ports-is : (held : HeldCounts) (before after : H) (old new : WriterState W)
        (answer : Result ℕ WriteFault)
        (ports : ServesPorts step acts contents asks task loaded held before after old new
        answer)
        → HoldsIfOpened step acts contents asks Is task loaded held before after old new answer
        ports
    ports-is held before after old new answer ports =
        bound-is (served_of loaded held) _ before ports.host after old new answer ports.bound
        ports.binds ports.continuation

  in-permit : (Ends : Result ℕ WriteFault → Type 0) (Goes : ℕ → Type 0)
      (permit : Result Permit WriteFault) (goes : AfterPermit permit Ends Goes)
      (More : (count : ℕ) → Goes count → Type 0)
      → ((count : ℕ) → permit ≡ Ok (Granted count) → (goes : Goes count) → More count goes)
      → InPermit Ends Goes permit goes More
  in-permit Ends Goes (Ok (Granted count)) goes More more = more count refl goes
  in-permit Ends Goes (Ok (Denied status)) goes More more = tt
  in-permit Ends Goes (Err fault) goes More more = tt

  -- what is so of all turns of a server of what was loaded, if its rules and its diagram hold
  module _ (Is : ServerData → List DoneTurn → Type 0) (loaded : LoadedFiles)
      (each : RulesHold loaded.load loaded.rules → DiagramHolds loaded.load loaded.diagram
      → (recording : Option Recording) (ts : List DoneTurn)
      → AreTurns (new_server recording (state_of loaded)) ts → AreGiven ts
      → Is (new_server recording (state_of loaded)) ts) (task : ServeTask (List ℕ)) where
    rules-is : (before after : H) (old new : WriterState W) (answer : Result ℕ WriteFault)
        (serves : ServesRules step acts contents asks task loaded before after old new answer)
        → HoldsWithRules step acts contents asks Is task loaded before after old new answer
        serves
    rules-is before after old new answer serves =
        in-permit _ _ serves.permit serves.continuation _
        (λ rules granted drawn. in-permit _ _ drawn.permit drawn.continuation _
        (λ releases let_go ports. ports-is Is loaded
        (each
        (rules-hold contents asks loaded.load loaded.rules old serves.middle serves.permit
        serves.writes rules granted)
        (diagram-holds contents asks loaded.load loaded.diagram serves.middle drawn.middle
        drawn.permit drawn.writes releases let_go)) task
        (record { rules = rules; releases = releases }) before after drawn.middle new answer ports))

  module _ {F : Type 0} (reads : FileReads F) (guards : ProtectedReads F) (files : F)
      (task : ServeTask (List ℕ)) (Is : FilesData → ServerData → List DoneTurn → Type 0)
      (each : (loaded : LoadedFiles)
      → LoadsFiles reads guards files (form_of task.program) (name_of task.program) task
      (Ok loaded)
      → RulesHold loaded.load loaded.rules → DiagramHolds loaded.load loaded.diagram
      → (recording : Option Recording) (ts : List DoneTurn)
      → AreTurns (new_server recording (state_of loaded)) ts → AreGiven ts
      → Is (data_of loaded) (new_server recording (state_of loaded)) ts) where
    pub files-is : (before after : H)
        (old new : WriterState W) (answer : Result ℕ WriteFault)
        (loaded : Result LoadedFiles ServeStartFault)
        → LoadsFiles reads guards files (form_of task.program) (name_of task.program) task loaded
        → (goes : MatchResult loaded
        (λ all. ServesLoaded step acts contents asks task all before after old new answer)
        (λ why. EndsUnserved contents asks why old new answer × (after ≡ before)))
        → HoldsIfRead step acts contents asks Is task before after old new answer loaded goes
    files-is before after old new answer (Ok loaded) loads goes =
        later-is _ _ goes.reported goes.continuation _
        (rules-is (Is (data_of loaded)) loaded (each loaded loads) task before after goes.middle
        new answer)
    files-is before after old new answer (Err why) loads goes = tt

  pub served-obey : {F : Type 0} (reads : FileReads F) (guards : ProtectedReads F)
      → ServedCommandsObey step acts contents asks reads guards
  served-obey reads guards files task before after old new answer serves =
      files-is reads guards files task (ObeyAuditsOf (form_of task.program))
      (λ loaded loads rules diagram. loaded-obeys (form_of task.program) (data_of loaded)
      (state_of loaded) (loaded.load, loads.6, refl)) before after old new answer serves.loaded
      serves.loads serves.continuation
