-- A report is a run.
use Rattle.std.proofs.Common.{◌≡◌, ℕ, List, [], ◌++◌, length, Option, Ok, inl, inr, refl, ap, subst, ◌∙◌}
use Rattle.std.proofs.lemmas.List.Elements.{All-nil}
use Rattle.bay_device.specs.Commands.{CommandsReleased}
use Rattle.bay_device.specs.Device.{State, bay_of}
use Rattle.bay_device.specs.Entries.{IsIdle}
use Rattle.bay_device.specs.Fresh.{IsHistory, PastEvent}
use Rattle.bay_device.specs.Load.{IsLoaded, device_of}
use Rattle.bay_device.specs.Meaning.{HaltsAt, MeansAt, Runs}
use Rattle.bay_device.specs.Steps.{Steps}
use Rattle.bay_device.proofs.CommandLemmas.{step-commanded}
use Rattle.bay_device.proofs.LoadedLemmas.{device-loaded, loaded-idle, loaded-runs}
use Rattle.bay_device.proofs.MeaningLemmas.{means-step}
use Rattle.bay_device.proofs.RunLemmas.{tells-backed}
use Rattle.bay_device.proofs.ToldLemmas.{idle-talks}
use Rattle.bay_load.specs.Loads.{IsCompiled, LoadData, parsed_bay, load_of, parsed_program}
use Rattle.bay_load.specs.declared.load.Form.TheVariants.{Logic}
use Rattle.bay_report.specs.Report.{report_text}
use Rattle.bay_report.specs.TextLines.{lines_of}
use Rattle.cmd_replay.specs.Replay.{DeviceReport, LoadedTraceReport, PartsLoadReport}
use Rattle.cmd_replay.specs.Scenario.{ScenarioParts}
use Rattle.cmd_replay.specs.History.{EachPast, answers_of, device_after, events_of}
use Rattle.cmd_replay.specs.Runs.{IsBlank, IsTextOfRun, IsGuardedRun, IsRun}
use Rattle.cmd_replay.proofs.BudgetLemmas.{step-halts}
use Rattle.cmd_replay.proofs.HistoryLemmas.{past-came, past-does, past-fresh, past-remote, past-so, past-tells}
use Rattle.cmd_replay.proofs.TraceLemmas.{goes}

-- what has happened to a device since load is one run of it
pub one-run : (first : State) (past : List PastEvent) → IsHistory [] first → IsIdle first
    → EachPast Steps first past → IsGuardedRun first past (device_after first past)
one-run first past begin idle steps =
    let tells =
    past-tells first past (ap (λ talks. length talks) idle.closed) (idle-talks first idle) steps
    in
    record {
      came = past-came begin.0 begin.1 first past begin.2 steps;
      commanded = past-so CommandsReleased step-commanded first past steps;
      fresh = past-fresh begin.0 begin.1 first past begin.2 steps;
      remote = past-remote begin.0 begin.1 first past begin.2 steps;
      operated = tells.operates;
      backed =
          tells-backed (bay_of first) (events_of past) first (answers_of past)
          (device_after first past) idle.unselected tells;
      halts = λ c runs. (past-does HaltsAt (Runs c) (step-halts c) first past runs steps).0;
      means = λ c runs. (past-does (MeansAt c) (Runs c) (means-step c) first past runs steps).0;
    }

module _ (bay logic : List ℕ) (first : State)
    (loaded : IsLoaded (parsed_bay bay) (IsCompiled (parsed_program logic)) first) where
  pub idle : IsIdle first
  idle = loaded-idle (parsed_bay bay) (IsCompiled (parsed_program logic)) first loaded

  pub run-of : (trace : List ℕ) (log : Option (List ℕ)) (text : List ℕ) (status : ℕ)
      → DeviceReport first (lines_of trace) log text status
      → IsRun (record { bay = bay; logic = logic; trace = trace }) first text status
  run-of trace log text status told =
      let e =
      goes log first [] (lines_of trace) [] 0 told.2.0 status tt (All-nil IsBlank) told.2.2 in
      record {
        loaded = loaded;
        past = e.whole;
        steps = e.steps;
        printed =
            record {
              report = told.0;
              reported = told.1;
              lines = e.all;
              rest = e.rest;
              split = e.split;
              events = e.events;
              ending = e.ending;
              ends = e.ends;
              whole = told.2.1 ∙ ap (λ t. report_text told.0 ++ t) e.printed;
            };
        runs = loaded-runs bay logic first loaded;
        guarded = one-run first e.whole (loaded.bay, loaded.image, loaded.is) idle e.steps;
      }

-- the device of a program's text
pub run-loaded : (bay logic : List ℕ) (l : LoadData) → load_of bay logic ≡ Ok l
    → IsLoaded (parsed_bay bay) (IsCompiled (parsed_program logic)) (device_of l)
run-loaded bay logic l loads = device-loaded bay Logic logic (device_of l) (l, loads, refl)

-- What is printed for parts that load is of a run.
pub of-run : (parts : ScenarioParts) (log : Option (List ℕ)) (text : List ℕ) (status : ℕ)
    → PartsLoadReport parts log text status → IsTextOfRun parts log text status
of-run parts log text status (inl told) l loads =
    inr (run-of parts.bay parts.logic (device_of l) (run-loaded parts.bay parts.logic l loads)
    parts.trace log text status
    (subst (λ loaded. LoadedTraceReport loaded parts.trace log text status) loads told))
of-run parts log text status (inr refused) l loads = inl refused
