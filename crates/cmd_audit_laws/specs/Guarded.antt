-- What a service implies that was started with rules or with a diagram: each of its commands and
-- scans obeys each rule, and no command is a hazard.
use Rattle.std.specs.Prelude.{ℕ, ◌≡◌, ◌<◌, length, slice_get, List, [], Option, None, Some, Result, Ok}
use Rattle.bay_audit_laws.specs.Laws.{ScanObeysAt}
use Rattle.bay_cli.specs.declared.task.ServeTask.{ServeTask}
use Rattle.bay_base.specs.declared.switch.Operation.{Operation}
use Rattle.bay_config.specs.declared.bay.Bay.{Bay}
use Rattle.bay_diagram_file.specs.Diagram.{diagram_of_file}
use Rattle.bay_diagram_file.specs.declared.diagram.Diagram.{Diagram}
use Rattle.bay_files.specs.Files.{ProtectedReads, FileReads, FilesData, ReadsFile}
use Rattle.bay_io.specs.Calls.{WriteCall}
use Rattle.bay_io.specs.Watched.{WriterState}
use Rattle.bay_io.specs.declared.outbox.WriteFault.{WriteFault}
use Rattle.bay_load.specs.Loads.{parsed_bay}
use Rattle.bay_load.specs.declared.load.Form.{Form}
use Rattle.cmd_replay.specs.History.{EachPast}
use Rattle.bay_audit_rules.specs.Meaning.{TextRead}
use Rattle.bay_audit_rules.specs.declared.rule.Rule.{Rule}
use Rattle.bay_audit_rules.specs.declared.rule.RuleKind.TheVariants.{Never}
use Rattle.bay_audit_rules.specs.declared.rule.Timing.{Timing}
use Rattle.bay_server_turn.specs.Calls.{Call}
use Rattle.bay_server_turn.specs.Turns.{ServerData}
use Rattle.bay_server.specs.Host.{HostCall}
use Rattle.cmd_serve.specs.Serve.{ServesFiles, form_of}
use Rattle.cmd_serve.specs.Service.{DoneTurn, past_of}
use Rattle.cmd_audit_laws.specs.Served.{IsFile, HoldsIfRead, OrdersAreHarmless, OrdersObey}
use Rattle.cmd_audit_laws.specs.Waits.{OrdersWait}

-- Turns of a server, from its first on, obey a rule. Each scan in them obeys a rule without a time;
-- each command obeys one that forbids, and waits for one that forbids before a time.
pub record TurnsObey (rule : Rule) (begun : ServerData) (turns : List DoneTurn) : Type 0 where
  pub scans : rule.timed ≡ None → EachPast (ScanObeysAt rule) begun.device (past_of turns begun [])
  pub obey : rule.kind ≡ Never → rule.timed ≡ None
      → OrdersObey rule begun.device begun [] turns
  pub wait : (timing : Timing) → rule.kind ≡ Never → rule.timed ≡ Some timing
      → OrdersWait rule timing begun.device begun [] [] turns

-- The text spells rules of the bay that the file spells, and the turns obey each of these rules.
pub record ObeyRules (bay text : List ℕ) (begun : ServerData) (turns : List DoneTurn)
    : Type 0 where
  pub own : Bay
  pub read : parsed_bay bay ≡ Ok own
  pub rules : List Rule
  pub parses : TextRead own text (Ok rules)
  pub obeyed : (place : ℕ) (rule : Rule) → slice_get rules place ≡ Some rule
      → TurnsObey rule begun turns

-- The text is that of a diagram of the bay that the file spells, and no command of the turns is a
-- hazard in it.
pub record ObeyDiagram (bay text : List ℕ) (begun : ServerData) (turns : List DoneTurn)
    : Type 0 where
  pub own : Bay
  pub read : parsed_bay bay ≡ Ok own
  pub drawn : Diagram
  pub parses : diagram_of_file own text ≡ Ok drawn
  pub obeyed : (k : ℕ) (operation : Operation) → k < length own.switches
      → OrdersAreHarmless drawn.network k operation begun.device begun [] turns

module _ {F : Type 0} (reads : FileReads F) where
  -- The turns obey the octets that were read from the file of this name.
  abbrev pub ObeyFile : (Obey : List ℕ → List ℕ → ServerData → List DoneTurn → Type 0) → F
      → List ℕ → Form → FilesData → ServerData → List DoneTurn → Type 0
  ObeyFile Obey files name form both begun turns =
      IsFile form both.program
      → (text : List ℕ) × ReadsFile reads files name (Ok text)
      × Obey both.bay text begun turns

module _ {F L H W : Type 0} (step : L → Call → L → Type 0) (acts : H → HostCall L → H → Type 0)
    (contents : W → Option (List ℕ)) (asks : W → WriteCall → W → Type 0) (reads : FileReads F)
    (guards : ProtectedReads F) where
  -- The turns of each service with a file of this kind obey it.
  abbrev pub GuardedObey : (ServeTask (List ℕ) → Option (List ℕ))
      → (List ℕ → List ℕ → ServerData → List DoneTurn → Type 0) → Type 0
  GuardedObey file_in Obey =
      (files : F) (task : ServeTask (List ℕ)) (before after : H)
      (old new : WriterState W)
      (answer : Result ℕ WriteFault)
      (serves : ServesFiles step acts contents asks reads guards files task before after
      old new answer) (name : List ℕ) → file_in task ≡ Some name
      → HoldsIfRead step acts contents asks (ObeyFile reads Obey files name (form_of task.program))
      task
      before
      after old new answer serves.loaded serves.continuation

  -- The turns of each service with rules obey the rules in their file.
  abbrev pub GuardedCommandsObey : Type 0
  GuardedCommandsObey = GuardedObey (λ task. task.options.rules) ObeyRules

  -- No command of a service with a diagram is a hazard in the diagram of its file.
  abbrev pub GuardedCommandsAreHarmless : Type 0
  GuardedCommandsAreHarmless = GuardedObey (λ task. task.options.diagram) ObeyDiagram
