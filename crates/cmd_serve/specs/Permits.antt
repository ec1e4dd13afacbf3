-- Whether a service may go on after its rules and its diagram were judged, and what is printed.
use Rattle.bay_io.specs.Calls.{WriteCall}
use Rattle.bay_io.specs.Watched.{WriterState}
use Rattle.bay_io.specs.declared.outbox.WriteFault.{WriteFault}
use Rattle.std.specs.Prelude.{◌≡◌, ℕ, List, Option, None, Some, Result, Ok, Err}
use Rattle.bay_load.specs.Loads.{LoadData}
use Rattle.bay_report.specs.LogLines.{PrintsLogs}
use Rattle.cmd_audit.specs.Judging.{IsVerdictOn, VerdictReport}
use Rattle.cmd_audit.specs.JudgingDiagram.{DiagramVerdictReport, IsDiagramVerdictOn}
use Rattle.cmd_audit.specs.declared.judging.RulesVerdict.{RulesVerdict}
use Rattle.cmd_audit.specs.declared.judging.RulesVerdict.TheVariants as rules
use Rattle.cmd_audit.specs.declared.judging_diagram.DiagramVerdict.{DiagramVerdict}
use Rattle.cmd_audit.specs.declared.judging_diagram.DiagramVerdict.TheVariants as diagram
use Rattle.cmd_serve.specs.declared.permit.Permit.{Permit}
use Rattle.cmd_serve.specs.declared.permit.Permit.TheVariants.{Granted, Denied}

-- the number of the rules, if each of them holds
abbrev pub rules_held : RulesVerdict → Option ℕ
rules_held (rules.Hold count) = Some count
rules_held (rules.Unproved text) = None
rules_held (rules.Refused fault) = None
rules_held rules.OutOfMemory = None

-- the number of the releases, if each of them holds
abbrev pub releases_held : DiagramVerdict → Option ℕ
releases_held (diagram.Hold count) = Some count
releases_held (diagram.Unproved text) = None
releases_held (diagram.Refused fault) = None
releases_held diagram.OutOfMemory = None

-- the permit after a verdict was printed: granted with the number of what holds, if all of it does;
-- denied with the status of the verdict, if not
abbrev pub permit_of : Result ℕ WriteFault → Option ℕ → Result Permit WriteFault
permit_of (Err fault) held = Err fault
permit_of (Ok status) (Some count) = Ok (Granted count)
permit_of (Ok status) None = Ok (Denied status)

-- what follows a permit: the service, with the number of what holds, if it is granted; otherwise
-- the end, with the status
abbrev pub AfterPermit : Result Permit WriteFault → (Result ℕ WriteFault → Type 0) → (ℕ → Type 0)
    → Type 0
AfterPermit (Err fault) ends goes = ends (Err fault)
AfterPermit (Ok (Denied status)) ends goes = ends (Ok status)
AfterPermit (Ok (Granted count)) ends goes = goes count

module _ {W : Type 0} (contents : W → Option (List ℕ)) (asks : W → WriteCall → W → Type 0) where
  -- a verdict is printed, and this is the permit
  pub record WritesVerdict {V : Type 0} (IsVerdict : V → Type 0) (held : V → Option ℕ)
      (ReportOf : V → Option (List ℕ) → List ℕ → ℕ → Type 0) (old new : WriterState W)
      (permit : Result Permit WriteFault) : Type 0 where
    pub verdict : V
    pub is : IsVerdict verdict
    pub status : Result ℕ WriteFault
    pub printed : PrintsLogs contents asks (ReportOf verdict) old new status
    pub permits : permit ≡ permit_of status (held verdict)

  -- the verdict on rules is printed, if there are some; without them the permit is granted
  abbrev pub WritesOnRules : LoadData → Option (List ℕ) → WriterState W → WriterState W
      → Result Permit WriteFault → Type 0
  WritesOnRules loaded None old new permit = (new ≡ old) × (permit ≡ Ok (Granted 0))
  WritesOnRules loaded (Some text) old new permit =
      WritesVerdict (IsVerdictOn loaded text) rules_held VerdictReport old new permit

  -- the verdict on a diagram is printed, if there is one; without one the permit is granted
  abbrev pub WritesOnDiagram : LoadData → Option (List ℕ) → WriterState W → WriterState W
      → Result Permit WriteFault → Type 0
  WritesOnDiagram loaded None old new permit = (new ≡ old) × (permit ≡ Ok (Granted 0))
  WritesOnDiagram loaded (Some text) old new permit =
      WritesVerdict (IsDiagramVerdictOn loaded text) releases_held DiagramVerdictReport old new
      permit
