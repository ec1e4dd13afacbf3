-- What the commands do: what is printed, the exit status, and what becomes of files.
use Rattle.bay_io.specs.Calls.{WriteCall}
use Rattle.std.specs.Prelude.{◌≡◌, ℕ, Bool, true, false, List, codes, Option, None, Some, Result, Ok, Err, is_err, ◌⊎◌, if◌then◌else◌}
use Rattle.il_image.specs.Images.{Image as Code, image_octets}
use Rattle.il_image.specs.declared.opcode.Version.TheVariants.{Two}
use Rattle.bay_load.specs.Loads.{LoadData, MayLoadTo}
use Rattle.bay_load.specs.Report.{IsReport as IsReportOf}
use Rattle.bay_load.specs.declared.error.LoadError.{LoadError}
use Rattle.bay_load.specs.declared.load.Form.{Form}
use Rattle.bay_load.specs.declared.load.Form.TheVariants as form
use Rattle.bay_load.specs.declared.report.Report.{Report}
use Rattle.bay_io.specs.Watched.{ReaderState, WriterState}
use Rattle.bay_io.specs.declared.outbox.WriteFault.{WriteFault}
use Rattle.bay_files.specs.Files.{ProtectedReads, FileReads, FileWrites, FilesData, ReadsBoth, UnreadData, WritesAtomically}
use Rattle.bay_files.specs.declared.files.FileFault.{FileFault}
use Rattle.bay_files.specs.declared.files.FileFault.TheVariants as unwritten
use Rattle.std.specs.declared.io.ErrorKind.{ErrorKind}
use Rattle.std.specs.declared.io.ErrorKind.TheVariants as kind
use Rattle.bay_cli.specs.Jobs.{task_in}
use Rattle.bay_cli.specs.declared.task.Invocation.{Invocation}
use Rattle.bay_cli.specs.declared.task.Task.{Task}
use Rattle.bay_cli.specs.declared.task.Task.TheVariants.{Check, Replay, Serve, Compile, Audit}
use Rattle.bay_main.specs.declared.ending.CommandResult.{CommandResult}
use Rattle.bay_main.specs.declared.ending.CommandResult.TheVariants.{Status, WriteFailed, Refused}
use Rattle.bay_main.specs.Check.{ChecksOctets}
use Rattle.bay_io.specs.Sent.{Logs}
use Rattle.bay_report.specs.LogLines.{LogsIfAny, PrintsLogs, RefusalReport, UnreadReport, unwritten_line}
use Rattle.bay_report.specs.Report.{IsOutput, Prints, report_text}
use Rattle.cmd_replay.specs.Replay.{ReplayReport}
use Rattle.cmd_audit.specs.Auditing.{Audits}
use Rattle.cmd_serve.specs.Serve.{ServesFiles, form_of, is_recorded, name_of}
use Rattle.bay_server.specs.Host.{HostCall}
use Rattle.bay_server_turn.specs.Calls.{Call}

-- the files that were read are checked; or it is reported that one can't be read
abbrev pub ChecksRead : {W : Type 0} → (W → Option (List ℕ)) → (W → WriteCall → W → Type 0) → Form
    → Result FilesData UnreadData → WriterState W → WriterState W → Result ℕ WriteFault → Type 0
ChecksRead contents asks form (Err unread) old new answer =
    PrintsLogs contents asks (UnreadReport unread.name unread.fault) old new answer
ChecksRead contents asks form (Ok both) old new answer =
    ChecksOctets contents asks both.bay form both.program old new answer

-- a check of a bay file and of a program or an image, by their names: both are read, and the result
-- of the load is reported
pub record Checks {F W : Type 0} (reads : FileReads F)
    (contents : W → Option (List ℕ)) (asks : W → WriteCall → W → Type 0) (form : Form)
    (bay program : List ℕ) (files : F)
    (old new : WriterState W) (answer : Result ℕ WriteFault) : Type 0 where
  pub read : Result FilesData UnreadData
  pub is_read : ReadsBoth reads files bay program read
  pub checks : ChecksRead contents asks form read old new answer

-- a file can't be written: this is logged, and the result of the command is a fault
abbrev pub Unwritten : {W : Type 0} → (W → Option (List ℕ)) → (W → WriteCall → W → Type 0)
    → List ℕ → ErrorKind → WriterState W → WriterState W → Result ℕ WriteFault → Type 0
Unwritten contents asks out kind old new answer =
    Logs contents asks old (unwritten_line out kind) new × (is_err answer ≡ true)

-- the result of writing a compiled program: the whole file; a failure, which is logged; or memory
-- ran out, which is printed
abbrev pub EndsWritten : {W : Type 0} → (W → Option (List ℕ)) → (W → WriteCall → W → Type 0)
    → List ℕ → Option FileFault → WriterState W
    → WriterState W → Result ℕ WriteFault → Type 0
EndsWritten contents asks out None old new answer = (new ≡ old) × (answer ≡ Ok 0)
EndsWritten contents asks out (Some (unwritten.Failed kind)) old new answer =
    Unwritten contents asks out kind old new answer
EndsWritten contents asks out (Some unwritten.OutOfMemory) old new answer =
    Prints contents asks (IsOutput (codes "fault memory\n") 3) old new answer

-- after the line of the load, a command makes the image, and writes it to the file of this name; or
-- memory runs out for it, which is printed, and no file is touched
abbrev pub WritesImage : {F W : Type 0} → FileWrites F
    → (W → Option (List ℕ)) → (W → WriteCall → W → Type 0) → List ℕ → Code → F → F → WriterState W
    → WriterState W → Result ℕ WriteFault
    → Type 0
WritesImage writes contents asks out image before after old new answer =
    ((fault : Option FileFault)
    × WritesAtomically writes 100 0 out (image_octets Two image) before after fault
    × EndsWritten contents asks out fault old new answer)
    ⊎ (Prints contents asks (IsOutput (codes "fault memory\n") 3) old new answer × (after ≡ before))

-- the continuation after a load's line, if this was printed: writing the image
abbrev pub WritesIfPrinted : {F W : Type 0} → FileWrites F → (W → Option (List ℕ))
    → (W → WriteCall → W → Type 0) → List ℕ → Code → F → F
    → WriterState W → WriterState W → Result ℕ WriteFault → Result ℕ WriteFault → Type 0
WritesIfPrinted writes contents asks out image before after old new (Err fault) answer =
    (new ≡ old) × (after ≡ before) × (answer ≡ Err fault)
WritesIfPrinted writes contents asks out image before after old new (Ok status) answer =
    WritesImage writes contents asks out image before after old new answer

-- what was loaded is compiled: the line of the load is printed, and then the image is written
pub record CompilesImage {F W : Type 0} (writes : FileWrites F) (contents : W → Option (List ℕ))
    (asks : W → WriteCall → W → Type 0)
    (out : List ℕ) (image : Code) (before after : F) (old new : WriterState W)
    (answer : Result ℕ WriteFault) : Type 0 where
  pub report : Report
  pub is : IsReportOf image report
  pub middle : WriterState W
  pub reported : Result ℕ WriteFault
  pub printed : Prints contents asks (IsOutput (report_text report) 0) old middle reported
  pub continuation : WritesIfPrinted writes contents asks out image before after middle new reported
      answer

-- what was loaded is compiled; the refusal of a load is reported, and no file is touched
abbrev pub CompilesLoaded : {F W : Type 0} → FileWrites F
    → (W → Option (List ℕ)) → (W → WriteCall → W → Type 0) → List ℕ → Result LoadData LoadError
    → F → F → WriterState W → WriterState W → Result ℕ WriteFault → Type 0
CompilesLoaded writes contents asks out (Err error) before after old new answer =
    PrintsLogs contents asks (RefusalReport error) old new answer × (after ≡ before)
CompilesLoaded writes contents asks out (Ok loaded) before after old new answer =
    CompilesImage writes contents asks out loaded.image before after old new answer

-- the files that were read are loaded and compiled; memory may run out for the load
abbrev pub CompilesOctets : {F W : Type 0} → FileWrites F
    → (W → Option (List ℕ)) → (W → WriteCall → W → Type 0) → List ℕ → FilesData → F
    → F → WriterState W → WriterState W
    → Result ℕ WriteFault → Type 0
CompilesOctets writes contents asks out both before after old new answer =
    (loaded : Result LoadData LoadError)
    × MayLoadTo both.bay form.Logic both.program loaded
    × CompilesLoaded writes contents asks out loaded before after old new answer

-- the files are loaded and compiled if they could be read; otherwise this is reported, and no file
-- is touched
abbrev pub CompilesRead : {F W : Type 0} → FileWrites F → (W → Option (List ℕ))
    → (W → WriteCall → W → Type 0) → List ℕ → Result FilesData UnreadData → F → F → WriterState W
    → WriterState W → Result ℕ WriteFault → Type 0
CompilesRead writes contents asks out (Err unread) before after old new answer =
    PrintsLogs contents asks (UnreadReport unread.name unread.fault) old new answer
    × (after ≡ before)
CompilesRead writes contents asks out (Ok both) before after old new answer =
    CompilesOctets writes contents asks out both before after old new answer

-- a compilation of a bay file and a program to a file, by their names: both are read, loaded and
-- compiled; if the file is one of the two, nothing is read, printed or touched, and the write
-- counts as failed, which is logged
abbrev pub Compiles : {F W : Type 0} → FileReads F
    → FileWrites F → (F → List ℕ → List ℕ → Bool → Type 0)
    → (W → Option (List ℕ)) → (W → WriteCall → W → Type 0) → List ℕ → List ℕ → List ℕ → F → F
    → WriterState W → WriterState W
    → Result ℕ WriteFault → Type 0
Compiles reads writes same contents asks bay logic out before after old new answer =
    ((same before out bay true ⊎ same before out logic true) × (after ≡ before)
    × Unwritten contents asks out kind.InvalidInput old new answer)
    ⊎ (same before out bay false × same before out logic false
    × ((read : Result FilesData UnreadData) × ReadsBoth reads before bay logic read
    × CompilesRead writes contents asks out read before after old new answer))

-- the result of a command, from that of its function
abbrev pub IsCommandResult : Result ℕ WriteFault → CommandResult → Type 0
IsCommandResult (Ok status) ended = ended ≡ Status status
IsCommandResult (Err fault) ended = ended ≡ WriteFailed

-- the arguments were refused
abbrev pub IsRefused : CommandResult → Type 0
IsRefused (Status status) = ⊥
IsRefused WriteFailed = ⊥
IsRefused (Refused text) = Unit {0}

-- the log is started, if the command has this option
abbrev pub logging : {W : Type 0} → Bool → WriterState W → WriterState W
logging log writer = if log then record writer { logs = true } else writer

-- the log line if standard output can't be written
abbrev pub unprinted_line : {W : Type 0} → WriterState W → Option (List ℕ)
unprinted_line writer =
    if writer.has_failed then Some (unwritten_line (codes "standard output") kind.Other) else None

-- what a command works on: files, ports and a clock, a reader, and a writer
pub record CommandEnvironment (F H R W : Type 0) : Type 0 where
  pub files : F
  pub host : H
  pub reader : ReaderState R
  pub writer : WriterState W

module _ {F L H R W : Type 0} (reads : FileReads F) (guards : ProtectedReads F)
    (writes : FileWrites F)
    (same : F → List ℕ → List ℕ → Bool → Type 0)
    (step : L → Call → L → Type 0) (acts : H → HostCall L → H → Type 0)
    (remaining : R → Option (List ℕ)) (contents : W → Option (List ℕ))
    (asks : W → WriteCall → W → Type 0) where
  -- A task is executed: what is printed and returned, and what becomes of files and ports. Only a
  -- replay reads from the reader. Only a service that is recorded and a compilation write a file.
  abbrev pub DoesTask : Task (List ℕ) → CommandEnvironment F H R W → CommandEnvironment F H R W
      → Result ℕ WriteFault
      → Type 0
  DoesTask (Check bay program) old new answer =
      Checks reads contents asks (form_of program) bay (name_of program) old.files old.writer
      new.writer
      answer × (new.files ≡ old.files) × (new.host ≡ old.host) × (new.reader ≡ old.reader)
  DoesTask (Compile bay logic out) old new answer =
      Compiles reads writes same contents asks bay logic out old.files new.files old.writer
      new.writer
      answer × (new.host ≡ old.host) × (new.reader ≡ old.reader)
  DoesTask (Audit bay program rules diagram effort) old new answer =
      Audits reads contents asks
      (record {
        bay = bay;
        form = form_of program;
        program = name_of program;
        rules = rules;
        diagram = diagram;
      }) old.files old.writer new.writer answer × (new.files ≡ old.files) × (new.host ≡ old.host)
      × (new.reader ≡ old.reader)
  DoesTask Replay old new answer =
      PrintsLogs contents asks (ReplayReport (remaining old.reader.inner) new.reader.has_failed)
      old.writer new.writer answer × (new.files ≡ old.files) × (new.host ≡ old.host)
  DoesTask (Serve task) old new answer =
      ServesFiles step acts contents asks reads guards old.files task old.host new.host old.writer
      new.writer answer
      × (is_recorded task.options ≡ false → new.files ≡ old.files) × (new.reader ≡ old.reader)

  -- The arguments spell a task, and it is executed, with the log if they have this option.
  pub record ExecutesTask (words : List (List ℕ)) (old new : CommandEnvironment F H R W)
      (ended : CommandResult)
      : Type 0 where
    pub invocation : Invocation (List ℕ)
    pub is : task_in words ≡ Some invocation
    pub answer : Result ℕ WriteFault
    pub done : CommandEnvironment F H R W
    pub does : DoesTask invocation.task
        (record old { writer = logging invocation.log old.writer }) done answer
    pub logged : LogsIfAny contents asks done.writer (unprinted_line done.writer) new.writer
    pub rest : new ≡ record done { writer = new.writer }
    pub ends : IsCommandResult answer ended

  -- The arguments spell no task, and are refused: nothing is read, printed or touched.
  pub record RefusesArguments (words : List (List ℕ)) (old new : CommandEnvironment F H R W)
      (ended : CommandResult)
      : Type 0 where
    pub none : task_in words ≡ None
    pub refused : IsRefused ended
    pub untouched : new ≡ old

  -- Memory runs out while the arguments are read, which is printed.
  pub record LacksMemory (old new : CommandEnvironment F H R W) (ended : CommandResult)
      : Type 0 where
    pub answer : Result ℕ WriteFault
    pub reported : Prints contents asks (IsOutput (codes "fault memory\n") 3) old.writer new.writer
        answer
    pub ends : IsCommandResult answer ended
    pub untouched : (new.files ≡ old.files) × (new.host ≡ old.host) × (new.reader ≡ old.reader)

  -- Arguments are obeyed: the task that they spell is executed; or they spell none, and are
  -- refused; or memory runs out while they are read.
  abbrev pub Obeys : List (List ℕ) → CommandEnvironment F H R W → CommandEnvironment F H R W
      → CommandResult → Type 0
  Obeys words old new ended =
      ExecutesTask words old new ended
      ⊎ (RefusesArguments words old new ended ⊎ LacksMemory old new ended)
