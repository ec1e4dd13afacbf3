-- What an audited rule, and a release that an audit holds for harmless, imply for the commands of a
-- service.
use Rattle.std.specs.Prelude.{ℕ, ◌≡◌, Bool, false, slice_get, List, [], ◌∷◌, Option, None, Some, Result, Ok, Err, MatchResult}
use Rattle.bay_audit_hazards.specs.Judged.{is_hazard_of}
use Rattle.bay_audit_laws.specs.Laws.{IsOutside, ScanObeysAt, process_of}
use Rattle.bay_cli.specs.declared.task.ServeTask.{ServeTask}
use Rattle.bay_base.specs.declared.switch.Operation.{Operation}
use Rattle.bay_device.specs.Device.{State}
use Rattle.bay_diagram.specs.declared.network.Network.{Network}
use Rattle.bay_device.specs.Fresh.{PastEvent}
use Rattle.bay_files.specs.Files.{ProtectedReads, FileReads, FilesData}
use Rattle.bay_io.specs.Calls.{WriteCall}
use Rattle.bay_io.specs.Watched.{WriterState}
use Rattle.bay_io.specs.declared.outbox.WriteFault.{WriteFault}
use Rattle.bay_nodes.specs.declared.switch.Switch.{Switch}
use Rattle.cmd_replay.specs.History.{EachPast}
use Rattle.bay_load.specs.declared.load.Form.{Form}
use Rattle.bay_load.specs.declared.load.Form.TheVariants.{Logic, Image}
use Rattle.bay_replay_laws.specs.Printed.{PrintedCommand}
use Rattle.bay_audit_rules.specs.Process.{Process, holds}
use Rattle.bay_audit_rules.specs.declared.rule.Rule.{Rule}
use Rattle.bay_audit_rules.specs.declared.rule.RuleKind.TheVariants.{Never}
use Rattle.bay_audit_rules.specs.declared.rule.Timing.{Timing}
use Rattle.bay_mms_services.specs.declared.answer.Command.{Command}
use Rattle.bay_server_turn.specs.Calls.{Call}
use Rattle.bay_server_turn.specs.Turns.{ServerData}
use Rattle.bay_server_turn_laws.specs.Events.{outcomes_at, turn_events}
use Rattle.bay_server.specs.Host.{HostCall}
use Rattle.cmd_serve.specs.Live.{HoldsLater}
use Rattle.cmd_serve.specs.Requests.{IsRequested}
use Rattle.cmd_serve.specs.Permits.{AfterPermit}
use Rattle.cmd_serve.specs.Serve.{EndsUnserved, ServesBound, ServesDiagram, ServesFiles, ServesLoaded, ServesPorts, ServesRules, data_of, form_of, served_of}
use Rattle.cmd_serve.specs.Service.{DoneTurn, server_after, past_after, past_of}
use Rattle.cmd_serve.specs.Texts.{IsPrintedFor}
use Rattle.cmd_serve.specs.declared.serve.BoundServer.{BoundServer}
use Rattle.cmd_serve.specs.declared.serve.LoadedFiles.{LoadedFiles}
use Rattle.cmd_serve.specs.declared.serve.ServeStartFault.{ServeStartFault}
use Rattle.cmd_serve.specs.declared.permit.Permit.{Permit}
use Rattle.cmd_serve.specs.declared.permit.Permit.TheVariants.{Granted, Denied}
use Rattle.cmd_serve.specs.declared.sums.HeldCounts.{HeldCounts}
use Rattle.cmd_serve.specs.declared.sums.ServedFiles.{ServedFiles}
use Rattle.il_image.specs.Octets.{AreOctets}
use Rattle.cmd_audit_laws.specs.Audited.{ByTimer, IsAudited, IsHeldByAudit, Plainly}
use Rattle.cmd_audit_laws.specs.Waits.{OrdersWait}

-- ---- turns

-- For each command of this switch and operation of one of the turns, however it was ordered: what
-- the process had last reported, at the device just before the client's octets, is not in a set.
-- The same for each line that reads as a command, if it names the switch and the operation.
abbrev pub OrdersAvoid : (Process → Bool) → ℕ → Operation → State → ServerData → List PastEvent
    → List DoneTurn → Type 0
OrdersAvoid set k operation first h past [] = Unit {0}
OrdersAvoid set k operation first h past (t ∷ ts) =
    ((command : Command) (o : IsRequested first h t past command)
    → IsOutside set k operation (outcomes_at t.now o.heard.front h.device).after command)
    × ((printed : PrintedCommand) (p : IsPrintedFor first h t past printed) (switch : Switch)
    → slice_get first.switches k ≡ Some switch → printed.id ≡ switch.id
    → printed.operation ≡ operation
    → set (process_of (outcomes_at t.now p.ordered.heard.front h.device).after) ≡ false)
    × OrdersAvoid set k operation first (server_after t h)
    (past_after t.now (turn_events t.now t.given t.script h) h.device past) ts

-- The commands that a rule forbids while its condition holds come only while it does not hold.
abbrev pub OrdersObey : Rule → State → ServerData → List PastEvent → List DoneTurn → Type 0
OrdersObey rule first h past turns =
    OrdersAvoid (holds rule.when) rule.switch rule.operation first h past turns

-- The commands of this switch and operation come only while that is no hazard in the network.
abbrev pub OrdersAreHarmless : Network → ℕ → Operation → State → ServerData → List PastEvent
    → List DoneTurn → Type 0
OrdersAreHarmless net k operation first h past turns =
    OrdersAvoid (is_hazard_of net k operation) k operation first h past turns

-- the requirement on an image, whoever wrote it: it is a list of octets
abbrev pub IsFile : Form → List ℕ → Type 0
IsFile Logic program = Unit {0}
IsFile Image program = AreOctets program

-- Turns of a server, from its first on, obey each rule that forbids, if an audit of the same octets
-- answers that it holds, and wait for each with a time, if the audit answers that a timer
-- establishes it. Each scan in them obeys each rule without a time that holds. No command is a
-- hazard in a diagram, if the audit answers that the release of its switch and operation holds.
pub record ObeyAudits (form : Form) (both : FilesData) (begun : ServerData) (turns : List DoneTurn)
    : Type 0 where
  pub obey : (rules : List ℕ) (rule : Rule) → rule.kind ≡ Never
      → IsAudited Plainly both.bay form both.program rules rule
      → OrdersObey rule begun.device begun [] turns
  pub wait : (rules : List ℕ) (rule : Rule) (timing : Timing) → rule.kind ≡ Never
      → rule.timed ≡ Some timing → IsAudited ByTimer both.bay form both.program rules rule
      → OrdersWait rule timing begun.device begun [] [] turns
  pub scans : (rules : List ℕ) (rule : Rule) → rule.timed ≡ None
      → IsAudited Plainly both.bay form both.program rules rule
      → EachPast (ScanObeysAt rule) begun.device (past_of turns begun [])
  pub harmless : (diagram : List ℕ) (net : Network) (k : ℕ) (operation : Operation)
      → IsHeldByAudit both.bay form both.program diagram net k operation
      → OrdersAreHarmless net k operation begun.device begun [] turns

-- Turns obey audits so, of a program's text or of the octets of an image.
abbrev pub ObeyAuditsOf : Form → FilesData → ServerData → List DoneTurn → Type 0
ObeyAuditsOf form both begun turns = IsFile form both.program → ObeyAudits form both begun turns

-- ---- the turns of a service

-- a statement on what follows a permit, if it is granted, with the number of what holds
abbrev pub InPermit : (Ends : Result ℕ WriteFault → Type 0) (Goes : ℕ → Type 0)
    (permit : Result Permit WriteFault) → AfterPermit permit Ends Goes
    → ((count : ℕ) → Goes count → Type 0) → Type 0
InPermit Ends Goes (Ok (Granted count)) goes more = more count goes
InPermit Ends Goes (Ok (Denied status)) goes more = Unit {0}
InPermit Ends Goes (Err fault) goes more = Unit {0}

module _ {L H W : Type 0} (step : L → Call → L → Type 0) (acts : H → HostCall L → H → Type 0)
    (contents : W → Option (List ℕ)) (asks : W → WriteCall → W → Type 0) where
  -- the statement holds for the turns that were served, if the ports could be bound
  abbrev pub HoldsIfBound : (Is : ServerData → List DoneTurn → Type 0) (task : ServeTask (List ℕ))
      (served : ServedFiles) (trace : List ℕ)
      (host after : H) (old new : WriterState W) (answer : Result ℕ WriteFault)
      (bound : Result (BoundServer L) ServeStartFault) → MatchResult bound
      (λ ports. ServesBound step acts contents asks task served ports trace host after old new
      answer)
      (λ why. EndsUnserved contents asks why old new answer × (after ≡ host))
      → Type 0
  HoldsIfBound Is task served trace host after old new answer (Ok ports) goes =
      Is ports.server goes.5.done
  HoldsIfBound Is task served trace host after old new answer (Err why) goes = Unit {0}

  -- the statement holds for the turns that were served, if the ports could be opened
  abbrev pub HoldsIfOpened : (Is : ServerData → List DoneTurn → Type 0) (task : ServeTask (List ℕ))
      (loaded : LoadedFiles) (held : HeldCounts)
      (before after : H) (old new : WriterState W) (answer : Result ℕ WriteFault)
      → ServesPorts step acts contents asks task loaded held before after old new answer
      → Type 0
  HoldsIfOpened Is task loaded held before after old new answer ports =
      HoldsIfBound Is task (served_of loaded held) loaded.trace.items ports.host after old new
      answer
      ports.bound ports.continuation

  -- the statement holds for the turns that were served, if the releases hold by the diagram, or
  -- there is none
  abbrev pub OfDiagram : (Is : ServerData → List DoneTurn → Type 0) (task : ServeTask (List ℕ))
      (loaded : LoadedFiles) (rules : ℕ)
      (before after : H) (old new : WriterState W) (answer : Result ℕ WriteFault)
      → ServesDiagram step acts contents asks task loaded rules before after old new answer
      → Type 0
  OfDiagram Is task loaded rules before after old new answer serves =
      InPermit _ _ serves.permit serves.continuation
      (λ releases. HoldsIfOpened Is task loaded (record { rules = rules; releases = releases })
      before
      after serves.middle new answer)

  -- the statement holds for the turns that were served, if the rules hold, or there are none
  abbrev pub HoldsWithRules : (Is : ServerData → List DoneTurn → Type 0) (task : ServeTask (List ℕ))
      (loaded : LoadedFiles)
      (before after : H) (old new : WriterState W) (answer : Result ℕ WriteFault)
      → ServesRules step acts contents asks task loaded before after old new answer → Type 0
  HoldsWithRules Is task loaded before after old new answer serves =
      InPermit _ _ serves.permit serves.continuation
      (λ rules. OfDiagram Is task loaded rules before after serves.middle new answer)

  -- the statement holds for the turns that were served, if the line of the load could be written
  abbrev pub HoldsIfLoaded : (Is : ServerData → List DoneTurn → Type 0) (task : ServeTask (List ℕ))
      (loaded : LoadedFiles)
      (before after : H) (old new : WriterState W) (answer : Result ℕ WriteFault)
      → ServesLoaded step acts contents asks task loaded before after old new answer → Type 0
  HoldsIfLoaded Is task loaded before after old new answer serves =
      HoldsLater _ _ serves.reported serves.continuation
      (HoldsWithRules Is task loaded before after serves.middle new answer)

  -- the statement holds for the turns that were served, if the files could be read and loaded: with
  -- the octets of the bay file and of the program
  abbrev pub HoldsIfRead : (Is : FilesData → ServerData → List DoneTurn → Type 0)
      (task : ServeTask (List ℕ)) (before after : H) (old new : WriterState W)
      (answer : Result ℕ WriteFault) (loaded : Result LoadedFiles ServeStartFault)
      → MatchResult loaded
      (λ all. ServesLoaded step acts contents asks task all before after old new answer)
      (λ why. EndsUnserved contents asks why old new answer × (after ≡ before))
      → Type 0
  HoldsIfRead Is task before after old new answer (Ok loaded) goes =
      HoldsIfLoaded (Is (data_of loaded)) task loaded before after old new answer goes
  HoldsIfRead Is task before after old new answer (Err why) goes = Unit {0}

-- ---- the turns of the files

module _ {F L H W : Type 0} (step : L → Call → L → Type 0) (acts : H → HostCall L → H → Type 0)
    (contents : W → Option (List ℕ)) (asks : W → WriteCall → W → Type 0) (reads : FileReads F)
    (guards : ProtectedReads F) where
  -- The turns of each service obey the answers of each audit of the same octets.
  abbrev pub ServedCommandsObey : Type 0
  ServedCommandsObey =
      (files : F) (task : ServeTask (List ℕ)) (before after : H)
      (old new : WriterState W)
      (answer : Result ℕ WriteFault)
      (serves : ServesFiles step acts contents asks reads guards files task before after
      old new answer)
      → HoldsIfRead step acts contents asks (ObeyAuditsOf (form_of task.program)) task before after
      old new
      answer serves.loaded serves.continuation
