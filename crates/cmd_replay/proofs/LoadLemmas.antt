-- Lemmas on what is printed for a load and a trace.
use Rattle.std.proofs.Common.{◌≡◌, ℕ, List, Option, Err, inl, inr, subst, sym}
use Rattle.bay_load.specs.Loads.{MayLoadTo}
use Rattle.bay_load.specs.declared.error.LoadError.{LoadError}
use Rattle.bay_load.specs.declared.error.LoadError.TheVariants.{OutOfMemory}
use Rattle.bay_load.specs.declared.load.Form.TheVariants.{Logic}
use Rattle.bay_device.specs.Device.{State}
use Rattle.bay_device.specs.Load.{LoadsDevice}
use Rattle.bay_report.specs.LogLines.{RefusalReport}
use Rattle.cmd_replay.specs.Replay.{DeviceReport, LoadedTraceReport, PartsLoadReport}
use Rattle.cmd_replay.specs.Scenario.{ScenarioParts}
use Rattle.bay_report.specs.TextLines.{lines_of}

-- a device's report is that of its scenario
pub LoadsReport-device : (parts : ScenarioParts) (s : State)
    → LoadsDevice parts.bay Logic parts.logic s
    → (log : Option (List ℕ)) (text : List ℕ) (status : ℕ)
    → DeviceReport s (lines_of parts.trace) log text status → PartsLoadReport parts log text status
LoadsReport-device parts s loads log text status told =
    inl (subst (λ loaded. LoadedTraceReport loaded parts.trace log text status) (sym loads.1)
    (subst (λ (d : State). DeviceReport d (lines_of parts.trace) log text status) loads.2 told))

-- a refused load is that of its scenario
pub LoadsReport-refused : (parts : ScenarioParts) (error : LoadError)
    → MayLoadTo parts.bay Logic parts.logic (Err error)
    → (log : Option (List ℕ)) (text : List ℕ) (status : ℕ) → RefusalReport error log text status
    → PartsLoadReport parts log text status
LoadsReport-refused parts error (inl refused) log text status told =
    inl (subst (λ loaded. LoadedTraceReport loaded parts.trace log text status) (sym refused) told)
LoadsReport-refused parts error (inr memory) log text status told =
    let is : error ≡ OutOfMemory = cc in inr (subst (λ e. RefusalReport e log text status) is told)
