-- The scan before a command's line in the text of a report.
use Rattle.std.specs.Prelude.{Bool, ℕ, ◌≡◌, ◌+◌, ◌≤◌, true, All, List, ◌∷◌, ◌++◌, None, Some, IfOk}
use Rattle.std.specs.List.{Contains}
use Rattle.bay_base.specs.declared.switch.Operation.{Operation}
use Rattle.bay_base.specs.declared.switch.Operation.TheVariants as operations
use Rattle.bay_device.specs.Device.{State}
use Rattle.bay_device.specs.Fresh.{IsSameProcess, PastEvent}
use Rattle.bay_device.specs.declared.event.Event.TheVariants.{Scan}
use Rattle.bay_report.specs.Lines.{step_text}
use Rattle.bay_report.specs.Report.{report_text}
use Rattle.cmd_replay.specs.Scenario.{ScenarioParts}
use Rattle.bay_replay_laws.specs.Printed.{PrintedCommand, PrintedScan, PrintedSwitch, with_ends, lines_in, printed_command, printed_scan}
use Rattle.bay_replay_laws.specs.Reports.{OfEachReport}
use Rattle.cmd_replay.specs.Runs.{IsRun, past_text}

-- A line that follows these lines of a text, which begins with `begin`, is one of the lines for an
-- event, which follows these events.
pub record IsCommandLineFor (begin : List ℕ) (p : PastEvent) (earlier : List PastEvent)
    (before : List (List ℕ)) (line : List ℕ) : Type 0 where
  pub part : List ℕ
  pub rest : List ℕ
  pub own : step_text p.now p.answer p.after ≡ part ++ (line ++ 10 ∷ rest)
  pub behind : with_ends before ≡ begin ++ (past_text earlier ++ part)

-- a scan's line releases an operation of a switch
abbrev pub releases_operation : Operation → PrintedSwitch → Bool
releases_operation operations.Open switch = switch.opens
releases_operation operations.Close switch = switch.closes

-- A scan's line releases a command: it has `id=x1` of the switch for on, `id=1y` for off.
pub record Releases (scan : PrintedScan) (command : PrintedCommand) : Type 0 where
  pub switch : PrintedSwitch
  pub reported : Contains scan.switches switch
  pub same : switch.id ≡ command.id
  pub released : releases_operation command.operation switch ≡ true

-- Among the lines before a command's line is that of the last scan before it, which releases it, at
-- most `age` milliseconds before; both are lines for events of this history. Of the events between
-- the two, none is a scan that was accepted, and none has changed the process; and no line between
-- the two is read as that of a scan.
pub record IsReleasedBy (age : ℕ) (begin : List ℕ) (past : List PastEvent) (before : List (List ℕ))
    (line : List ℕ) (command : PrintedCommand) : Type 0 where
  pub later : List PastEvent
  pub order : PastEvent
  pub since : List PastEvent
  pub scan : PastEvent
  pub earlier : List PastEvent
  pub split : past ≡ later ++ order ∷ (since ++ scan ∷ earlier)
  pub ordered : IsCommandLineFor begin order (since ++ scan ∷ earlier) before line
  pub scanned : scan.event ≡ Scan
  pub front : List (List ℕ)
  pub reported : List ℕ
  pub back : List (List ℕ)
  pub lines : before ≡ front ++ reported ∷ back
  pub printed : IsCommandLineFor begin scan earlier front reported
  pub read : PrintedScan
  pub is : printed_scan reported ≡ Some read
  pub releases : Releases read command
  pub recent : command.moment ≤ read.moment + age
  pub last : All (λ (p : PastEvent). IfOk p.answer (λ step. step.scan ≡ None)) since
  pub last_line : All (λ between. printed_scan between ≡ None) back
  pub unchanged : All (λ (p : PastEvent). IsSameProcess scan.after p.after) since

-- Each line of a command in the text of a run is released so.
abbrev pub AreReleased : (parts : ScenarioParts) (first : State) (text : List ℕ) (status : ℕ)
    → IsRun parts first text status → Type 0
AreReleased parts first text status run =
    (before after : List (List ℕ)) (line : List ℕ) (command : PrintedCommand)
    → lines_in text ≡ before ++ line ∷ after → printed_command line ≡ Some command
    → IsReleasedBy run.loaded.bay.scan_max_age_ms (report_text run.printed.report) run.past before
    line command

-- A report has no line of a command, or is the text of a run in which each is released.
abbrev pub CommandsAreReleased : Type 0
CommandsAreReleased = OfEachReport printed_command AreReleased
