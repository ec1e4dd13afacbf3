-- The text that is printed for a load and for a fault, with which status, and how it reached a
-- writer.
use Rattle.bay_io.specs.Calls.{SomeCalls, Unlogged, WriteCall, write_failed}
use Rattle.bay_load.specs.Errors as error
use Rattle.bay_load.specs.declared.error.LoadError.{LoadError}
use Rattle.bay_load.specs.declared.report.Report.{Report}
use Rattle.bay_io.specs.Sent.{SendsPart}
use Rattle.bay_io.specs.Watched.{WriterState}
use Rattle.bay_io.specs.declared.outbox.WriteFault.{WriteFault}
use Rattle.bay_report.specs.declared.output.Status.{Status}
use Rattle.bay_report.specs.declared.output.Status.TheVariants.{Clean, Refused as Refuses, Usage, Fault, Unproved}
use Rattle.std.specs.Fmt.{decimal}
use Rattle.std.specs.Io.KnownBytes.{Appends}
use Rattle.std.specs.Prelude.{◌≡◌, ℕ, ◌==◌, true, false, List, [], ◌++◌, codes, Option, None, Some, Result, Ok, Err, if◌then◌else◌}

-- the line of a refusal, with the line of the program, if it has one
abbrev pub numbered_refusal : ℕ → ℕ → List ℕ
numbered_refusal code line =
    if line == 0 then codes "load refused " ++ (decimal code ++ codes "\n")
    else codes "load refused " ++ decimal code ++ codes " line " ++ (decimal line ++ codes "\n")

-- the line of a refused load, by the number and the line of its error; out of memory has no number
abbrev pub coded_refusal : Option ℕ → ℕ → List ℕ
coded_refusal None line = codes "load refused memory\n"
coded_refusal (Some code) line = numbered_refusal code line

-- the line of a refused load
abbrev pub load_refusal_text : LoadError → List ℕ
load_refusal_text fault = coded_refusal (error.code_of fault) (error.line_of fault)

-- the line of a load: the number of instructions of the program, the maximum number of values on
-- its stack, and the maximum number of instructions that a scan executes
abbrev pub report_text : Report → List ℕ
report_text report =
    codes "instructions=" ++ decimal report.instructions ++ codes " depth="
    ++ decimal report.depth ++ codes " budget=" ++ (decimal report.budget ++ codes "\n")

-- the numbers of the exit statuses
abbrev pub code_of : Status → ℕ
code_of Clean = 0
code_of Refuses = 1
code_of Usage = 2
code_of Fault = 3
code_of Unproved = 4

-- the writer received what was pending and one whole text of those that may be printed
pub record Reports (May : List ℕ → ℕ → Type 0) (pending : List ℕ) (old new : Option (List ℕ))
    (status : ℕ) : Type 0 where
  pub text : List ℕ
  pub reported : May text status
  pub appended : Appends old new (pending ++ text)

-- the writer received a prefix of what was pending and of one text that may be printed
pub record ReportsPart (May : List ℕ → ℕ → Type 0) (pending : List ℕ) (old new : Option (List ℕ))
    : Type 0 where
  pub text : List ℕ
  pub status : ℕ
  pub reported : May text status
  pub part : SendsPart old new (pending ++ text)

-- this text and this status alone
abbrev pub IsOutput : List ℕ → ℕ → List ℕ → ℕ → Type 0
IsOutput last answered text status = (text ≡ last) × (status ≡ answered)

-- The result is the status of a text that may be printed, and all of the text reached the writer
-- and was flushed; or a write or a flush failed, and the writer received a prefix of such a text.
abbrev pub Printed : {W : Type 0} → (W → Option (List ℕ)) → (List ℕ → ℕ → Type 0) → WriterState W
    → WriterState W → Result ℕ WriteFault → Type 0
Printed contents May old new (Ok status) =
    Reports May old.pending (contents old.inner) (contents new.inner) status
    × ((new.pending ≡ []) × (new.has_failed ≡ false) × (new.is_flushed ≡ true))
Printed contents May old new (Err fault) =
    ReportsPart May old.pending (contents old.inner) (contents new.inner)
    × (new.has_failed ≡ true)

-- A text was printed (`Printed`) by these calls on the writer, none of which logs.
pub record Prints {W : Type 0} (contents : W → Option (List ℕ)) (asks : W → WriteCall → W → Type 0)
    (May : List ℕ → ℕ → Type 0) (old new : WriterState W) (result : Result ℕ WriteFault)
    : Type 0 where
  pub printed : Printed contents May old new result
  pub calls_made : SomeCalls (Unlogged asks) write_failed old.inner old.has_failed new.inner
      new.has_failed
  pub same_logs : new.logs ≡ old.logs
