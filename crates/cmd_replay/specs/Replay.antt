-- What is printed for a scenario, with which status, and which line is logged then, if any.
use Rattle.bay_io.specs.Calls.{MakesFewCalls, ReadCall, WriteCall, read_failed, some_call, write_failed}
use Rattle.std.specs.Prelude.{◌≡◌, ℕ, ◌+◌, ◌≤◌, ◌<◌, Bool, false, List, ◌∷◌, ◌++◌, length, codes, Option, None, Some, is_none, IfSome, Result, Ok, Err, is_err, ◌⊎◌, MatchBool, if◌then◌else◌, []}
use Rattle.bay_device.specs.Device.{State}
use Rattle.bay_device.specs.Load.{device_of}
use Rattle.cmd_replay.specs.LineAnswers.{Choice, Replaying, line_answer}
use Rattle.bay_load.specs.Loads.{LoadData, load_of}
use Rattle.bay_load.specs.Report.{IsReport as IsReportOf}
use Rattle.bay_load.specs.declared.error.LoadError.{LoadError}
use Rattle.bay_load.specs.declared.error.LoadError.TheVariants.{OutOfMemory}
use Rattle.bay_load.specs.declared.report.Report.{Report}
use Rattle.cmd_replay.specs.Runs.{IsTextOfRun}
use Rattle.cmd_replay.specs.Scenario.{ScenarioParts, scenario_of, scenario_limit}
use Rattle.bay_report.specs.TextLines.{lines_of}
use Rattle.bay_io.specs.Input.{IsEnded, octets_of}
use Rattle.bay_io.specs.Watched.{ReaderState, WriterState}
use Rattle.bay_io.specs.declared.input.ReadFault.{ReadFault}
use Rattle.bay_io.specs.declared.input.ReadFault.TheVariants as unread
use Rattle.bay_io.specs.declared.outbox.WriteFault.{WriteFault}
use Rattle.std.specs.declared.io.ErrorKind.{ErrorKind}
use Rattle.bay_trace.specs.Trace.{trace_line_of}
use Rattle.bay_report.specs.LogLines.{IsLoggedOutput, PrintsLogs, RefusalReport, UnreadReport, unreadable_line}
use Rattle.bay_report.specs.Report.{report_text}

-- the log line for line k, the last line of a trace that was answered: none if the line is valid
abbrev pub last_log : ℕ → List ℕ → Option (List ℕ)
last_log k line = if is_none (trace_line_of line) then Some (unreadable_line k line) else None

-- the log line, the text and the status for the lines of a trace, from line k on: for each line
-- there is a choice with which its answer is printed, one after the other, up to a line that is not
-- valid or for which memory runs out
abbrev pub TraceReport : Replaying → ℕ → List (List ℕ) → Option (List ℕ) → List ℕ → ℕ → Type 0
TraceReport r k [] log text status = IsLoggedOutput None [] 0 log text status
TraceReport r k (line ∷ lines) log text status =
    (choice : Choice) × (let answer = line_answer choice k (trace_line_of line) r in
    MatchBool answer.is_last (IsLoggedOutput (last_log k line) answer.text 3 log text status)
    ((rest : List ℕ) × (text ≡ answer.text ++ rest)
    × TraceReport answer.after (k + 1) lines log rest status))

-- the report of a device and its trace: the line of its load is printed, followed by the answers to
-- the lines; the buffer for octets is empty at first
abbrev pub DeviceReport : State → List (List ℕ) → Option (List ℕ) → List ℕ → ℕ → Type 0
DeviceReport s lines log text status =
    (report : Report) × IsReportOf s.machine.image report
    × ((rest : List ℕ) × (text ≡ report_text report ++ rest)
    × TraceReport (record { device = s; room = 0 }) 1 lines log rest status)

-- the report of a trace on the result of a load
abbrev pub LoadedTraceReport : Result LoadData LoadError → List ℕ → Option (List ℕ) → List ℕ → ℕ
    → Type 0
LoadedTraceReport (Err error) trace log text status = RefusalReport error log text status
LoadedTraceReport (Ok loaded) trace log text status =
    DeviceReport (device_of loaded) (lines_of trace) log text status

-- the report of a bay file, a program and a trace; memory may run out in their load
abbrev pub PartsLoadReport : ScenarioParts → Option (List ℕ) → List ℕ → ℕ → Type 0
PartsLoadReport parts log text status =
    LoadedTraceReport (load_of parts.bay parts.logic) parts.trace log text status
    ⊎ RefusalReport OutOfMemory log text status

-- The report of the parts of a scenario, stated once more by the events of the device: if the parts
-- load, the text is that of a run of the device, of which everything holds that is proved of a run.
abbrev pub RunReport : ScenarioParts → Option (List ℕ) → List ℕ → ℕ → Type 0
RunReport parts log text status =
    PartsLoadReport parts log text status × IsTextOfRun parts log text status

-- the report of a scenario by its parts; a fault if a part is missing
abbrev pub PartsReport : Option ScenarioParts → Option (List ℕ) → List ℕ → ℕ → Type 0
PartsReport None =
    IsLoggedOutput (Some (codes "bayctl: fault 120 line 0: a line %% is missing\n"))
    (codes "fault 120 line 0\n") 3
PartsReport (Some parts) = RunReport parts

-- the report of a scenario
abbrev pub ScenarioReport : List ℕ → Option (List ℕ) → List ℕ → ℕ → Type 0
ScenarioReport scenario = PartsReport (scenario_of scenario)

-- the report of an input that can't be read
abbrev pub UnreadInputReport : ReadFault → Option (List ℕ) → List ℕ → ℕ → Type 0
UnreadInputReport = UnreadReport (codes "standard input")

-- the report of the octets of a reader of which no read failed: that of the scenario, or that
-- memory ran out; a fault if there were too many
abbrev pub ReadReport : Option (List ℕ) → Option (List ℕ) → List ℕ → ℕ → Type 0
ReadReport input log text status =
    ((scenario : List ℕ) × IfSome input (λ octets. scenario ≡ octets)
    × (length scenario ≤ scenario_limit)
    × (ScenarioReport scenario log text status
    ⊎ UnreadInputReport unread.OutOfMemory log text status))
    ⊎ (UnreadInputReport unread.TooLong log text status
    × IfSome input (λ octets. scenario_limit < length octets))

-- the report of the octets of a reader; that of a failed read exactly if a read failed
abbrev pub ReplayReport : Option (List ℕ) → Bool → Option (List ℕ) → List ℕ → ℕ → Type 0
ReplayReport input has_failed log text status =
    MatchBool has_failed ((kind : ErrorKind)
    × UnreadInputReport (unread.Failed kind) log text status)
    (ReadReport input log text status)

-- The octets of a reader were replayed to a writer: the scenario is what at most 16,777,217 reads
-- returned, in their order, up to the end. The failure of the reader is reported exactly if one of
-- these reads failed, or one had failed before.
pub record ReplaysReads {R W : Type 0} (does : R → ReadCall → R → Type 0)
    (contents : W → Option (List ℕ)) (asks : W → WriteCall → W → Type 0) (old new : ReaderState R)
    (before after : WriterState W) (result : Result ℕ WriteFault) : Type 0 where
  pub reads : MakesFewCalls does read_failed (scenario_limit + 1) old.inner old.has_failed new.inner
      new.has_failed
  pub ended : new.has_failed ≡ false → IsEnded reads.calls_made.calls
      ⊎ (scenario_limit < length (octets_of reads.calls_made.calls))
  pub prints : PrintsLogs contents asks
      (ReplayReport (Some (octets_of reads.calls_made.calls)) new.has_failed) before after result

-- A source was replayed to a sink; neither was used before. The result is a fault exactly if a
-- write or a flush failed, or a write took nothing.
pub record Replays {R W : Type 0} (does : R → ReadCall → R → Type 0)
    (contents : W → Option (List ℕ)) (asks : W → WriteCall → W → Type 0) (reader : R) (writer : W)
    (result : Result ℕ WriteFault) : Type 0 where
  pub end : ReaderState R
  pub last : WriterState W
  pub replays : ReplaysReads does contents asks
      (record { inner = reader; has_failed = false }) end
      (record {
        inner = writer;
        has_failed = false;
        is_flushed = false;
        logs = false;
        pending = [];
      }) last result
  pub fault : is_err result ≡ some_call write_failed replays.prints.printed.calls_made.calls
