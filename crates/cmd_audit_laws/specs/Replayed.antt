-- What an audited rule, and a release that an audit holds for harmless, imply for the commands of a
-- replay.
use Rattle.std.specs.Prelude.{ℕ, ◌≡◌, Bool, false, List, ◌∷◌, ◌++◌, slice_get, None, Some, Ok}
use Rattle.std.specs.List.{Contains}
use Rattle.bay_audit_hazards.specs.Judged.{is_hazard_of}
use Rattle.bay_audit_laws.specs.Laws.{CommandsAreHarmlessAt, CommandsObeyAt, ScanObeysAt, process_of}
use Rattle.bay_base.specs.declared.switch.Operation.{Operation}
use Rattle.bay_diagram.specs.declared.network.Network.{Network}
use Rattle.bay_device.specs.Device.{State}
use Rattle.bay_device.specs.Fresh.{PastEvent}
use Rattle.bay_device.specs.declared.event.Step.{Step}
use Rattle.bay_nodes.specs.declared.switch.Switch.{Switch}
use Rattle.cmd_replay.specs.History.{EachPast, device_after}
use Rattle.cmd_replay.specs.Runs.{IsRun}
use Rattle.cmd_replay.specs.Scenario.{ScenarioParts}
use Rattle.bay_report.specs.Report.{report_text}
use Rattle.bay_load.specs.declared.load.Form.TheVariants.{Logic}
use Rattle.bay_replay_laws.specs.Printed.{PrintedCommand, lines_in, printed_command}
use Rattle.bay_replay_laws.specs.Released.{IsCommandLineFor}
use Rattle.bay_audit_rules.specs.Process.{Process, holds}
use Rattle.bay_audit_rules.specs.declared.rule.Rule.{Rule}
use Rattle.bay_audit_rules.specs.declared.rule.RuleKind.TheVariants.{Never}
use Rattle.bay_audit_rules.specs.declared.rule.Timing.{Timing}
use Rattle.bay_mms_services.specs.declared.answer.Command.{Command}
use Rattle.cmd_audit_laws.specs.Audited.{ByTimer, IsAudited, IsHeldByAudit, Plainly}
use Rattle.cmd_audit_laws.specs.Waits.{PastWaits}

-- ---- lines

-- A command's line is one of the lines for an event of this history, and has one of the commands
-- that the event issued: to the switch with this id.
pub record IsIssued (begin : List ℕ) (first : State) (past : List PastEvent)
    (before : List (List ℕ)) (line : List ℕ) (printed : PrintedCommand) : Type 0 where
  pub later : List PastEvent
  pub order : PastEvent
  pub earlier : List PastEvent
  pub split : past ≡ later ++ order ∷ earlier
  pub ordered : IsCommandLineFor begin order earlier before line
  pub moment : printed.moment ≡ order.now
  pub step : Step
  pub answered : order.answer ≡ Ok step
  pub command : Command
  pub issued : Contains step.commands command
  pub switch : Switch
  pub here : slice_get first.switches command.switch ≡ Some switch
  pub named : switch.id ≡ printed.id
  pub operation : command.operation ≡ printed.operation

-- Each command's line of a text has such a command; and if it names this switch and this operation,
-- what the process had last reported before the event is not in a set.
abbrev pub LinesAvoid : (Process → Bool) → ℕ → Operation → List ℕ → State → List PastEvent → List ℕ
    → Type 0
LinesAvoid set k operation begin first past text =
    (before after : List (List ℕ)) (line : List ℕ) (printed : PrintedCommand)
    → lines_in text ≡ before ++ line ∷ after → printed_command line ≡ Some printed
    → (i : IsIssued begin first past before line printed)
    × ((switch : Switch) → slice_get first.switches k ≡ Some switch
    → printed.id ≡ switch.id → printed.operation ≡ operation
    → set (process_of (device_after first i.earlier)) ≡ false)

-- ---- runs

-- The events of a run obey each rule that forbids, if an audit of the same octets answers that it
-- holds: a command that the rule forbids while its condition holds is issued by an event before
-- which the condition did not hold for what the process had last reported. The same holds for each
-- command's line of the text. The commands wait for each rule with a time, if the audit answers
-- that a timer establishes it. Each scan obeys each rule without a time that holds. If the audit
-- answers that a release holds by a diagram, no command of this switch and operation is a hazard in
-- it before its event, and so for each command's line.
pub record RunObeys (parts : ScenarioParts) (first : State) (text : List ℕ) (status : ℕ)
    (run : IsRun parts first text status) : Type 0 where
  pub obey : (rules : List ℕ) (rule : Rule) → rule.kind ≡ Never
      → IsAudited Plainly parts.bay Logic parts.logic rules rule
      → EachPast (CommandsObeyAt rule) first run.past
  pub lines : (rules : List ℕ) (rule : Rule) → rule.kind ≡ Never
      → IsAudited Plainly parts.bay Logic parts.logic rules rule
      → LinesAvoid (holds rule.when) rule.switch rule.operation (report_text run.printed.report)
      first run.past text
  pub wait : (rules : List ℕ) (rule : Rule) (timing : Timing) → rule.kind ≡ Never
      → rule.timed ≡ Some timing → IsAudited ByTimer parts.bay Logic parts.logic rules rule
      → PastWaits rule timing first run.past
  pub scans : (rules : List ℕ) (rule : Rule) → rule.timed ≡ None
      → IsAudited Plainly parts.bay Logic parts.logic rules rule
      → EachPast (ScanObeysAt rule) first run.past
  pub harmless : (diagram : List ℕ) (net : Network) (k : ℕ) (operation : Operation)
      → IsHeldByAudit parts.bay Logic parts.logic diagram net k operation
      → EachPast (CommandsAreHarmlessAt net k operation) first run.past
      × LinesAvoid (is_hazard_of net k operation) k operation (report_text run.printed.report)
      first run.past text

-- Each run of a scenario's device obeys the rules so.
abbrev pub ReplayedCommandsObey : Type 0
ReplayedCommandsObey =
    (parts : ScenarioParts) (first : State) (text : List ℕ) (status : ℕ)
    (run : IsRun parts first text status) → RunObeys parts first text status run
