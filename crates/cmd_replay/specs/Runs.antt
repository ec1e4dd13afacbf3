-- A report is the text of a run of a device.
use Rattle.std.specs.Prelude.{ℕ, ◌≡◌, ◌+◌, List, [], ◌∷◌, ◌++◌, All, length, codes, Option, None, Some, Ok, ◌⊎◌}
use Rattle.bay_control.specs.Backing.{AreBacked}
use Rattle.il_check.specs.Program.{Checked}
use Rattle.bay_device.specs.Commands.{CommandsReleased}
use Rattle.bay_device.specs.Device.{State, bay_of}
use Rattle.bay_device.specs.Fresh.{IsHistory, PastEvent}
use Rattle.bay_device.specs.Load.{IsLoaded, device_of}
use Rattle.bay_device.specs.Meaning.{HaltsAt, MeansAt, Runs}
use Rattle.bay_device.specs.Operates.{AllOperate}
use Rattle.bay_device.specs.Steps.{Steps}
use Rattle.bay_device.specs.ObservedRuns.{observed_in_run}
use Rattle.bay_load.specs.Loads.{IsCompiled, LoadData, parsed_bay, load_of, parsed_program}
use Rattle.bay_load.specs.Report.{IsReport as IsReportOf}
use Rattle.bay_load.specs.declared.error.LoadError.TheVariants.{OutOfMemory}
use Rattle.bay_load.specs.declared.report.Report.{Report}
use Rattle.bay_trace.specs.Resolving.{resolved_event}
use Rattle.bay_trace.specs.Trace.{NamedData, at_moment, blank, trace_line_of}
use Rattle.bay_report.specs.Lines.{step_text, unreadable_text}
use Rattle.bay_report.specs.LogLines.{RefusalReport}
use Rattle.bay_report.specs.Report.{report_text}
use Rattle.bay_report.specs.TextLines.{lines_of}
use Rattle.cmd_replay.specs.History.{AllFresh, AllRemote, EachPast, answers_of, device_after, events_of}
use Rattle.cmd_replay.specs.Scenario.{ScenarioParts}

-- ---- the lines of a trace

-- A line is empty.
abbrev pub IsBlank : List ℕ → Type 0
IsBlank line = trace_line_of line ≡ Some blank

-- The last of some lines that is not empty has this event at its moment, by the names of the device
-- before it; `before` are the lines before it, and all lines after it are empty.
pub record IsLastEvent (s : State) (p : PastEvent) (before lines : List (List ℕ)) : Type 0 where
  pub line : List ℕ
  pub blanks : List (List ℕ)
  pub split : lines ≡ before ++ line ∷ blanks
  pub named : NamedData
  pub reads : trace_line_of line ≡ Some (at_moment p.now named)
  pub event : p.event ≡ resolved_event s named
  pub blank : All IsBlank blanks

-- The events are those of these lines, one for each line that is not empty.
abbrev pub AreLineEvents : State → List PastEvent → List (List ℕ) → Type 0
AreLineEvents first [] lines = All IsBlank lines
AreLineEvents first (p ∷ past) lines =
    (before : List (List ℕ)) × IsLastEvent (device_after first past) p before lines
    × AreLineEvents first past before

-- ---- the text

-- what is printed for events, one after the other
abbrev pub past_text : List PastEvent → List ℕ
past_text [] = []
past_text (p ∷ past) = past_text past ++ step_text p.now p.answer p.after

-- How a trace ends after `done` lines: after its last line; or at a line that is not valid, whose
-- number is printed, or for whose octets memory ran out.
abbrev pub EndsAs : ℕ → List (List ℕ) → List ℕ → ℕ → Type 0
EndsAs done [] ending status = (ending ≡ []) × (status ≡ 0)
EndsAs done (line ∷ lines) ending status =
    (((trace_line_of line ≡ None) × (ending ≡ unreadable_text (done + 1)))
    ⊎ (ending ≡ codes "fault memory\n"))
    × (status ≡ 3)

-- The text and the status of a trace that is replayed on a device, by these events: the line of its
-- load, what is printed for the events, and how it ends.
pub record IsRunText (first : State) (past : List PastEvent) (trace text : List ℕ) (status : ℕ)
    : Type 0 where
  pub report : Report
  pub reported : IsReportOf first.machine.image report
  pub lines : List (List ℕ)
  pub rest : List (List ℕ)
  pub split : lines_of trace ≡ lines ++ rest
  pub events : AreLineEvents first past lines
  pub ending : List ℕ
  pub ends : EndsAs (length lines) rest ending status
  pub whole : text ≡ report_text report ++ (past_text past ++ ending)

-- ---- a run

-- The events of a device since load, which led from the first state to the last.
pub record IsGuardedRun (first : State) (past : List PastEvent) (last : State) : Type 0 where
  pub came : IsHistory past last
  -- Each command is one that the interlocking releases, on a fresh scan, while no switch is
  -- operating, and something is sent with it;
  pub commanded : EachPast CommandsReleased first past
  -- it follows a scan of these events that is not too old, since which the process has not changed;
  pub fresh : AllFresh first.scan_max_age_ms past
  -- the key of its switch, if there is one, was last reported to be at remote, since the last loss
  -- of the process;
  pub remote : AllRemote first past
  -- and the commands are the accepted operates in the entries of the run, by the octets of the
  -- events and of the answers, each backed by a select if its switch must be selected.
  pub operated : AllOperate (bay_of first) first.connections (events_of past) (answers_of past)
  pub backed : AreBacked first.controls.controls
      (observed_in_run (bay_of first) first.connections (events_of past) (answers_of past))
  -- Each scan of a device that runs a program reaches HALT without a trap, within the budget, and
  -- results in what the program means.
  pub halts : (c : Checked) → Runs c first → EachPast HaltsAt first past
  pub means : (c : Checked) → Runs c first → EachPast (MeansAt c) first past

-- The text and the status are those of a run of a device, which was loaded from the parts of a
-- scenario.
pub record IsRun (parts : ScenarioParts) (first : State) (text : List ℕ) (status : ℕ)
    : Type 0 where
  pub loaded : IsLoaded (parsed_bay parts.bay) (IsCompiled (parsed_program parts.logic)) first
  pub past : List PastEvent
  pub steps : EachPast Steps first past
  pub printed : IsRunText first past parts.trace text status
  pub runs : Runs loaded.made.checked first
  pub guarded : IsGuardedRun first past (device_after first past)

-- If the parts of a scenario load to a device, the text and the status are those of a run of it, or
-- those of a load for which memory ran out.
abbrev pub IsTextOfRun : ScenarioParts → Option (List ℕ) → List ℕ → ℕ → Type 0
IsTextOfRun parts log text status =
    (loaded : LoadData) → load_of parts.bay parts.logic ≡ Ok loaded
    → RefusalReport OutOfMemory log text status ⊎ IsRun parts (device_of loaded) text status
