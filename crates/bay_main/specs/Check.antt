-- What is printed and logged for a load alone.
use Rattle.std.specs.Prelude.{ℕ, List, Option, Result, Ok, Err}
use Rattle.bay_io.specs.Calls.{WriteCall}
use Rattle.bay_io.specs.Watched.{WriterState}
use Rattle.bay_io.specs.declared.outbox.WriteFault.{WriteFault}
use Rattle.bay_load.specs.Loads.{LoadData, MayLoadTo}
use Rattle.bay_load.specs.Report.{IsReport as IsReportOf}
use Rattle.bay_load.specs.declared.error.LoadError.{LoadError}
use Rattle.bay_load.specs.declared.load.Form.{Form}
use Rattle.bay_load.specs.declared.report.Report.{Report}
use Rattle.bay_report.specs.LogLines.{PrintsLogs, RefusalReport}
use Rattle.bay_report.specs.Report.{IsOutput, Prints, report_text}

-- the line of a load is printed; or that it is refused is printed, and the reason is logged
abbrev pub ReportsLoad : {W : Type 0} → (W → Option (List ℕ)) → (W → WriteCall → W → Type 0)
    → Result LoadData LoadError → WriterState W → WriterState W → Result ℕ WriteFault → Type 0
ReportsLoad contents asks (Ok loaded) old new answer =
    (report : Report) × IsReportOf loaded.image report
    × Prints contents asks (IsOutput (report_text report) 0) old new answer
ReportsLoad contents asks (Err error) old new answer =
    PrintsLogs contents asks (RefusalReport error) old new answer

-- a bay file and a program or an image are loaded, and the result is reported; memory may run out
-- for the load
pub record ChecksOctets {W : Type 0} (contents : W → Option (List ℕ))
    (asks : W → WriteCall → W → Type 0) (bay : List ℕ) (form : Form) (program : List ℕ)
    (old new : WriterState W) (answer : Result ℕ WriteFault) : Type 0 where
  pub loaded : Result LoadData LoadError
  pub loads : MayLoadTo bay form program loaded
  pub reports : ReportsLoad contents asks loaded old new answer
