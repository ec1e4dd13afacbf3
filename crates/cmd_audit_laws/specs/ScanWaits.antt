-- What a rule with `until` implies for the scans of a service and of a replay.
use Rattle.std.specs.Prelude.{ℕ, ◌≡◌, slice_get, List, [], ◌∷◌, Option, Some, Result, Ok}
use Rattle.bay_audit.specs.declared.answer.RuleAnswer.{RuleAnswer}
use Rattle.bay_audit.specs.declared.answer.RuleAnswer.TheVariants.{Holds, Since}
use Rattle.bay_audit_laws.specs.Laws.{ScanWaitsAt}
use Rattle.bay_audit_rules.specs.Meaning.{TextRead}
use Rattle.bay_audit_rules.specs.declared.rule.Rule.{Rule}
use Rattle.bay_audit_rules.specs.declared.rule.RuleKind.TheVariants.{Never}
use Rattle.bay_audit_rules.specs.declared.rule.Timing.{Timing}
use Rattle.bay_cli.specs.declared.task.ServeTask.{ServeTask}
use Rattle.bay_config.specs.declared.bay.Bay.{Bay}
use Rattle.bay_device.specs.Device.{State}
use Rattle.bay_device.specs.Fresh.{PastEvent}
use Rattle.bay_files.specs.Files.{ProtectedReads, FileReads, FilesData}
use Rattle.bay_io.specs.Calls.{WriteCall}
use Rattle.bay_io.specs.Watched.{WriterState}
use Rattle.bay_io.specs.declared.outbox.WriteFault.{WriteFault}
use Rattle.bay_load.specs.Loads.{parsed_bay}
use Rattle.bay_load.specs.declared.load.Form.{Form}
use Rattle.bay_load.specs.declared.load.Form.TheVariants.{Logic}
use Rattle.bay_server_turn.specs.Calls.{Call}
use Rattle.bay_server_turn.specs.Turns.{ServerData}
use Rattle.bay_server.specs.Host.{HostCall}
use Rattle.cmd_replay.specs.History.{device_after}
use Rattle.cmd_replay.specs.Runs.{IsRun}
use Rattle.cmd_replay.specs.Scenario.{ScenarioParts}
use Rattle.cmd_serve.specs.Serve.{ServesFiles, form_of}
use Rattle.cmd_serve.specs.Service.{DoneTurn, past_of}
use Rattle.cmd_audit_laws.specs.Audited.{IsAudited}
use Rattle.cmd_audit_laws.specs.Guarded.{GuardedObey}
use Rattle.cmd_audit_laws.specs.Served.{HoldsIfRead, IsFile}
use Rattle.cmd_audit_laws.specs.Waits.{scans_of}

-- Each accepted scan of these events that releases the switch, in a state that the rule covers,
-- comes only after the condition of the rule was TRUE at this scan, and at each scan before it back
-- to one that is at least the time of the rule ago.
abbrev pub PastScansWait : Rule → Timing → State → List PastEvent → Type 0
PastScansWait rule timing first [] = Unit {0}
PastScansWait rule timing first (p ∷ past) =
    ScanWaitsAt rule timing (scans_of timing.condition first past) p.now p.event
    (device_after first past) p.answer p.after
    × PastScansWait rule timing first past

-- the answer that a rule holds, with a timer or without
abbrev pub Passes : RuleAnswer → Type 0
Passes (Holds cases) = Unit {0}
Passes (Since timer cases) = Unit {0}
Passes other = ⊥

-- ---- a service

-- The scans of turns of a server, from its first on, wait for each rule that forbids before a time,
-- if an audit of the same octets answers that it holds or that a timer establishes it.
abbrev pub AuditedScansWait : Form → FilesData → ServerData → List DoneTurn → Type 0
AuditedScansWait form both begun turns =
    IsFile form both.program → (rules : List ℕ) (rule : Rule) (timing : Timing)
    → rule.kind ≡ Never → rule.timed ≡ Some timing
    → IsAudited Passes both.bay form both.program rules rule
    → PastScansWait rule timing begun.device (past_of turns begun [])

-- The text spells rules of the bay that the file spells, and the scans of the turns wait for each
-- of these rules that forbids before a time.
pub record ScansWaitForRules (bay text : List ℕ) (begun : ServerData) (turns : List DoneTurn)
    : Type 0 where
  pub own : Bay
  pub read : parsed_bay bay ≡ Ok own
  pub rules : List Rule
  pub parses : TextRead own text (Ok rules)
  pub waited : (place : ℕ) (rule : Rule) (timing : Timing) → slice_get rules place ≡ Some rule
      → rule.kind ≡ Never → rule.timed ≡ Some timing
      → PastScansWait rule timing begun.device (past_of turns begun [])

module _ {F L H W : Type 0} (step : L → Call → L → Type 0) (acts : H → HostCall L → H → Type 0)
    (contents : W → Option (List ℕ)) (asks : W → WriteCall → W → Type 0) (reads : FileReads F)
    (guards : ProtectedReads F) where
  -- The scans of each service wait for the rules of each audit of the same octets.
  abbrev pub ServedScansWait : Type 0
  ServedScansWait =
      (files : F) (task : ServeTask (List ℕ)) (before after : H)
      (old new : WriterState W)
      (answer : Result ℕ WriteFault)
      (serves : ServesFiles step acts contents asks reads guards files task before after
      old new answer)
      → HoldsIfRead step acts contents asks (AuditedScansWait (form_of task.program)) task before
      after
      old new answer serves.loaded serves.continuation

  -- The scans of each service with rules wait for the rules in their file.
  abbrev pub GuardedScansWait : Type 0
  GuardedScansWait =
      GuardedObey step acts contents asks reads guards (λ task. task.options.rules)
      ScansWaitForRules

-- ---- a replay

-- The scans of each replay wait for the rules of each audit of the same octets.
abbrev pub ReplayedScansWait : Type 0
ReplayedScansWait =
    (parts : ScenarioParts) (first : State) (text : List ℕ) (status : ℕ)
    (run : IsRun parts first text status) (rules : List ℕ) (rule : Rule) (timing : Timing)
    → rule.kind ≡ Never → rule.timed ≡ Some timing
    → IsAudited Passes parts.bay Logic parts.logic rules rule
    → PastScansWait rule timing first run.past
