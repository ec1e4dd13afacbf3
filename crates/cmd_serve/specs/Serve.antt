-- The command `serve`: files are read and loaded, rules and a diagram are judged, ports are opened,
-- and turns are served.
use Rattle.bay_io.specs.Calls.{WriteCall}
use Rattle.std.specs.declared.io.ErrorKind.{ErrorKind}
use Rattle.std.specs.Prelude.{◌≡◌, ℕ, true, is_err, is_some, List, ◌∷◌, ◌++◌, replicate, option_map, codes, MatchResult, Bool, Option, None, Some, Result, Ok, Err, ◌⊎◌, [], unwrap_or}
use Rattle.bay_cli.specs.declared.task.ProgramFile.{ProgramFile}
use Rattle.bay_cli.specs.declared.task.ProgramFile.TheVariants as source
use Rattle.bay_cli.specs.declared.task.ServeOptions.{ServeOptions}
use Rattle.bay_cli.specs.declared.task.ServeTask.{ServeTask}
use Rattle.bay_device.specs.Device.{State}
use Rattle.bay_device.specs.Load.{IsLoaded, device_of}
use Rattle.bay_device.specs.Meaning.{Runs}
use Rattle.bay_device.specs.Outcomes.{associations}
use Rattle.bay_files.specs.Files.{ProtectedReads, FileReads, FilesData, ReadsBoth, ReadsIfNamed, unread_view}
use Rattle.bay_files.specs.Keys.{ReadsKeyIfNamed, key_fault_view}
use Rattle.bay_files.specs.declared.key.KeyFault.{KeyFault}
use Rattle.bay_files.specs.declared.key.KeyFault.TheVariants as keyless
use Rattle.bay_io.specs.Sent.{Logs}
use Rattle.bay_io.specs.Watched.{WriterState}
use Rattle.bay_io.specs.declared.outbox.WriteFault.{WriteFault}
use Rattle.bay_process_port.specs.Ports.{initial_port}
use Rattle.bay_process_port.specs.Supervised.{SupervisionSettings}
use Rattle.bay_load.specs.Loads.{IsCompiled, LoadsTo, MayLoadTo, parsed_bay, parsed_program}
use Rattle.bay_load.specs.Report.{IsReport as IsReportOf}
use Rattle.bay_load.specs.declared.load.Form.{Form}
use Rattle.bay_load.specs.declared.load.Form.TheVariants.{Logic, Image}
use Rattle.bay_load.specs.declared.report.Report.{Report}
use Rattle.bay_report.specs.LogLines.{IsLoggedOutput, PrintsLogs, RefusalReport, UnreadReport, unwritten_line}
use Rattle.bay_report.specs.Report.{IsOutput, Prints, report_text}
use Rattle.bay_report.specs.TextLines.{lines_of}
use Rattle.bay_server_turn.specs.Calls.{Call}
use Rattle.bay_server_turn.specs.Recorded.{Recording, new_recording}
use Rattle.bay_server_turn.specs.Turns.{ServerData}
use Rattle.bay_server.specs.Clock.{initial_clock}
use Rattle.bay_server.specs.ConnectionLines.{no_lines}
use Rattle.bay_server.specs.Host.{HostCall, Binds, ReadsTimes}
use Rattle.bay_server.specs.LogLines.{ports_log, unbound_log}
use Rattle.bay_server.specs.Logging.{LogsAll}
use Rattle.bay_server.specs.RecordLine.{room_log}
use Rattle.bay_server.specs.ServeReport.{AfterTurn, ProcessData, ServiceState, ServesTurns, numbered_lines}
use Rattle.bay_server.specs.declared.clock.Clocks.{Clocks}
use Rattle.bay_server.specs.declared.host.BindFault.{BindFault}
use Rattle.cmd_audit.specs.Auditing.{ReadsOptional}
use Rattle.cmd_serve.specs.Live.{CommandsLive, IsSupervised}
use Rattle.cmd_serve.specs.SessionRecord.{KeepsRecord}
use Rattle.cmd_serve.specs.Requests.{AreRequested}
use Rattle.cmd_serve.specs.Permits.{AfterPermit, WritesOnDiagram, WritesOnRules}
use Rattle.cmd_serve.specs.Service.{DoneTurn, IsService, turns_in}
use Rattle.cmd_serve.specs.Sums.{sums_log}
use Rattle.cmd_serve.specs.Texts.{ArePrinted}
use Rattle.cmd_serve.specs.declared.serve.BoundServer.{BoundServer}
use Rattle.cmd_serve.specs.declared.serve.LoadedFiles.{LoadedFiles}
use Rattle.cmd_serve.specs.declared.serve.ServeStartFault.{ServeStartFault}
use Rattle.cmd_serve.specs.declared.permit.Permit.{Permit}
use Rattle.cmd_serve.specs.declared.sums.HeldCounts.{HeldCounts}
use Rattle.cmd_serve.specs.declared.sums.ServedFiles.{ServedFiles}
use Rattle.cmd_serve.specs.declared.serve.ServeStartFault.TheVariants as unserved

-- the form of a program, and the name of its file
abbrev pub form_of : ProgramFile (List ℕ) → Form
form_of (source.Logic name) = Logic
form_of (source.Image name) = Image

abbrev pub name_of : ProgramFile (List ℕ) → List ℕ
name_of (source.Logic name) = name
name_of (source.Image name) = name

-- whether the session is recorded
abbrev pub is_recorded : ServeOptions (List ℕ) → Bool
is_recorded options = is_some options.record_file

-- the most octets of a record, if one is named: 16,000,000 if the command names no number
abbrev pub record_room : ServeOptions (List ℕ) → Option ℕ
record_room options =
    option_map (λ name. unwrap_or options.record_most 16000000) options.record_file

-- the record of a session, if it is recorded, before its first event
abbrev pub recording_of : ServeOptions (List ℕ) → Option Recording
recording_of options = option_map new_recording (record_room options)

-- a file without a key: the log line, the text and the status
abbrev pub KeylessReport : List ℕ → KeyFault → Option (List ℕ) → List ℕ → ℕ → Type 0
KeylessReport name (keyless.Unread fault) = UnreadReport name fault
KeylessReport name keyless.Exposed =
    IsLoggedOutput
    (Some (codes "bayctl: fault 121: " ++ (name ++ codes ": only its owner may read it\n")))
    (codes "fault 121\n") 3
KeylessReport name keyless.Malformed =
    IsLoggedOutput (Some (codes "bayctl: fault 121: "
    ++ (name ++ codes ": a key has 32 to 64 hexadecimal digits\n"))) (codes "fault 121\n") 3

-- why no turn is served: the log line, the text and the status
abbrev pub UnservedReport : ServeStartFault → Option (List ℕ) → List ℕ → ℕ → Type 0
UnservedReport (unserved.Unread unread) = UnreadReport unread.name.now unread.fault
UnservedReport (unserved.KeyFileFault none) = KeylessReport none.name.now none.fault
UnservedReport (unserved.Refused error) = RefusalReport error
UnservedReport (unserved.Unbound port fault) =
    IsLoggedOutput (Some (unbound_log port fault)) (codes "fault 121\n") 3
UnservedReport unserved.OutOfMemory = IsLoggedOutput None (codes "fault memory\n") 3
UnservedReport (unserved.Unrecorded name kind) = λ logged text status. ⊥

-- the file of the record can't be created: this is logged, and the command fails as at a failed
-- write
abbrev pub Unrecorded : {W : Type 0} → (W → Option (List ℕ)) → (W → WriteCall → W → Type 0)
    → List ℕ → ErrorKind → WriterState W → WriterState W → Result ℕ WriteFault → Type 0
Unrecorded contents asks name kind old new answer =
    Logs contents asks old (unwritten_line name kind) new × (is_err answer ≡ true)

-- how the command ends if no turn is served
abbrev pub EndsUnserved : {W : Type 0} → (W → Option (List ℕ)) → (W → WriteCall → W → Type 0)
    → ServeStartFault → WriterState W → WriterState W → Result ℕ WriteFault → Type 0
EndsUnserved contents asks (unserved.Unrecorded name kind) old new answer =
    Unrecorded contents asks name.now kind old new answer
EndsUnserved contents asks (unserved.Unread unread) old new answer =
    PrintsLogs contents asks (UnservedReport (unserved.Unread unread)) old new answer
EndsUnserved contents asks (unserved.KeyFileFault none) old new answer =
    PrintsLogs contents asks (UnservedReport (unserved.KeyFileFault none)) old new answer
EndsUnserved contents asks (unserved.Refused fault) old new answer =
    PrintsLogs contents asks (UnservedReport (unserved.Refused fault)) old new answer
EndsUnserved contents asks (unserved.Unbound port fault) old new answer =
    PrintsLogs contents asks (UnservedReport (unserved.Unbound port fault)) old new answer
EndsUnserved contents asks unserved.OutOfMemory old new answer =
    PrintsLogs contents asks (UnservedReport unserved.OutOfMemory) old new answer

-- a device that was loaded from the text of a program runs what the text means
abbrev pub RunsText : Form → FilesData → State → Type 0
RunsText Logic both s =
    (loaded : IsLoaded (parsed_bay both.bay) (IsCompiled (parsed_program both.program)) s)
    × Runs loaded.made.checked s
RunsText Image both s = Unit {0}

-- the device of what was loaded
abbrev pub state_of : LoadedFiles → State
state_of loaded = device_of loaded.load

-- the octets of the bay file and of the program or the image
abbrev pub data_of : LoadedFiles → FilesData
data_of loaded =
    record { bay = loaded.both.bay.items; program = loaded.both.program.items }

-- The files were read: the bay and the program or the image, then the trace, the key, the rules and
-- the diagram, if they were named. Their contents were loaded; or one could not be read, or had no
-- key, or the load was refused.
abbrev pub LoadsFiles : {F : Type 0} → FileReads F → ProtectedReads F → F → Form → List ℕ
    → ServeTask (List ℕ) → Result LoadedFiles ServeStartFault → Type 0
LoadsFiles reads guards files form program task (Ok loaded) =
    ReadsBoth reads files task.bay program (Ok (data_of loaded))
    × ReadsIfNamed reads files task.options.trace (Ok loaded.trace.items)
    × ReadsKeyIfNamed guards files task.options.key (Ok (option_map (λ key. key.items) loaded.key))
    × ReadsOptional reads files task.options.rules (Ok loaded.rules)
    × ReadsOptional reads files task.options.diagram (Ok loaded.diagram)
    × (loaded.form ≡ form)
    × LoadsTo loaded.both.bay.items form loaded.both.program.items (Ok loaded.load)
    × RunsText form (data_of loaded) (state_of loaded)
LoadsFiles reads guards files form program task (Err (unserved.Unread unread)) =
    ReadsBoth reads files task.bay program (Err (unread_view unread))
    ⊎ ((both : FilesData) × ReadsBoth reads files task.bay program (Ok both)
    × (ReadsIfNamed reads files task.options.trace (Err (unread_view unread))
    ⊎ ((trace : List ℕ) × ReadsIfNamed reads files task.options.trace (Ok trace)
    × ((key : Option (List ℕ)) × ReadsKeyIfNamed guards files task.options.key (Ok key)
    × (ReadsOptional reads files task.options.rules (Err (unread_view unread))
    ⊎ ((rules : Option (List ℕ)) × ReadsOptional reads files task.options.rules (Ok rules)
    × ReadsOptional reads files task.options.diagram (Err (unread_view unread))))))))
LoadsFiles reads guards files form program task (Err (unserved.KeyFileFault none)) =
    (both : FilesData) × ReadsBoth reads files task.bay program (Ok both)
    × ((trace : List ℕ) × ReadsIfNamed reads files task.options.trace (Ok trace)
    × ReadsKeyIfNamed guards files task.options.key (Err (key_fault_view none)))
LoadsFiles reads guards files form program task (Err (unserved.Refused error)) =
    (both : FilesData) × ReadsBoth reads files task.bay program (Ok both)
    × ((trace : List ℕ) × ReadsIfNamed reads files task.options.trace (Ok trace)
    × ((key : Option (List ℕ)) × ReadsKeyIfNamed guards files task.options.key (Ok key)
    × ((rules : Option (List ℕ)) × ReadsOptional reads files task.options.rules (Ok rules)
    × ((diagram : Option (List ℕ)) × ReadsOptional reads files task.options.diagram (Ok diagram)
    × MayLoadTo both.bay form both.program (Err error)))))
LoadsFiles reads guards files form program task (Err _) = ⊥

-- ---- ports

-- the key that a process must send; a dash if there is none
abbrev pub key_of : Option (List ℕ) → List ℕ
key_of key = unwrap_or key (codes "-")

-- the supervision settings, if the process is supervised: the longest silence, and the key
abbrev pub settings_of : Option ℕ → List ℕ → Option SupervisionSettings
settings_of limit key = option_map (λ ms. record { limit = ms; key = key }) limit

-- a server as it is created of a device, with the record of its session, if there is one: its
-- queues are empty
abbrev pub new_server : Option Recording → State → ServerData
new_server recording s =
    record { device = s; queues = replicate associations []; recording = recording }

-- the record could not be started, if there is to be one
abbrev pub IsRecordFault : Bool → ServeStartFault → Type 0
IsRecordFault records (unserved.Unrecorded name kind) = records ≡ true
IsRecordFault records unserved.OutOfMemory = Unit {0}
IsRecordFault records (unserved.Unread unread) = ⊥
IsRecordFault records (unserved.KeyFileFault none) = ⊥
IsRecordFault records (unserved.Refused fault) = ⊥
IsRecordFault records (unserved.Unbound port fault) = ⊥

-- a server of a device is created and its record is started, if the session is recorded, with the
-- link of its clients and the process; or memory runs out, or the record can't be started
abbrev pub IsBound : {L : Type 0} → ServeOptions (List ℕ) → State → L → Option (ProcessData L)
    → Result (BoundServer L) ServeStartFault
    → Type 0
IsBound options s link process bound =
    (bound ≡ Ok (record {
      server = new_server (recording_of options) s;
      link = link;
      process = process;
    }))
    ⊎ ((why : ServeStartFault) × (bound ≡ Err why) × IsRecordFault (is_recorded options) why)

module _ {L H : Type 0} (acts : H → HostCall L → H → Type 0) where
  -- the port of the process is opened, if there is one
  abbrev pub BindsProcess : ServeTask (List ℕ) → Option SupervisionSettings → State → L → Option ℕ
      → H → H → Result (BoundServer L) ServeStartFault → Type 0
  BindsProcess task settings s link None before after bound =
      (after ≡ before) × IsBound task.options s link None bound
  BindsProcess task settings s link (Some port) before after bound =
      (had : Result L BindFault) × acts before (Binds port None had) after
      × MatchResult had
      (λ other. IsBound task.options s link
      (Some (record { link = other; port = initial_port task.sends_releases settings; skips_left = 0 })) bound)
      (λ fault. bound ≡ Err (unserved.Unbound port fault))

  -- the port of the clients is opened, and then that of the process; or memory runs out for the
  -- device, before a port is opened
  abbrev pub BindsPorts : ServeTask (List ℕ) → Option SupervisionSettings → State → H → H
      → Result (BoundServer L) ServeStartFault
      → Type 0
  BindsPorts task settings s before after bound =
      ((had : Result L BindFault) × (mid : H)
      × acts before (Binds task.port task.options.idle_s had) mid
      × MatchResult had
      (λ link. BindsProcess task settings s link task.options.process mid after bound)
      (λ fault. (after ≡ mid) × (bound ≡ Err (unserved.Unbound task.port fault))))
      ⊎ ((after ≡ before) × (bound ≡ Err unserved.OutOfMemory))

-- what is logged before the first turn: the ports, the room of the record, if there is one, and the
-- sums of the files that are served
abbrev pub start_log : ℕ → ServeTask (List ℕ) → ServedFiles → List (List ℕ)
start_log now task served =
    ports_log now task.port task.options.process ∷ room_log now (record_room task.options)
    ++ sums_log now served

-- the files that are served, with the numbers of the rules and of the releases that hold
abbrev pub served_of : LoadedFiles → HeldCounts → ServedFiles
served_of loaded held = record {
  form = loaded.form;
  both = loaded.both;
  rules = loaded.rules;
  diagram = loaded.diagram;
  held = held;
}

module _ {L H W : Type 0} (step : L → Call → L → Type 0) (acts : H → HostCall L → H → Type 0)
    (contents : W → Option (List ℕ)) (asks : W → WriteCall → W → Type 0) where
  -- Turns are served, all of which are one run of the device, from load on. Before each command
  -- that one of them reports come a client's octets that request it, the success that is sent to
  -- this client, and the last scan of an earlier turn, which released it; and so before each line
  -- that is printed, or sent to the process, and reads as one. If the process is supervised, it is
  -- live in each turn that reports a command. If the session is recorded, the record is what
  -- happened in the turns, up to its end.
  pub record ServesRun (turns : ℕ) (before : ServiceState L H) (old new : WriterState W) (host : H)
      (answer : Result ℕ WriteFault) : Type 0 where
    pub serves : ServesTurns step acts contents asks turns before old host new answer
    pub done : List DoneTurn
    pub are : done ≡ turns_in step acts contents asks turns before old host new answer serves
    pub run : IsService before.held done
    pub ordered : AreRequested before.held.device before.held [] done
    pub printed : ArePrinted before.held.device before.held [] done
    pub live : (settings : SupervisionSettings) → IsSupervised settings before
        → CommandsLive step acts contents asks settings turns before old host new answer serves
    pub recorded : KeepsRecord before.held done

  -- the server's clock is started, the ports, the record's room and the sums of the files are
  -- logged, and turns are served
  abbrev pub ServesBound : ServeTask (List ℕ) → ServedFiles → BoundServer L → List ℕ → H → H
      → WriterState W → WriterState W
      → Result ℕ WriteFault → Type 0
  ServesBound task served bound trace host after old new answer =
      (clocks : Clocks) × (began : H) × (mid : WriterState W)
      × acts host (ReadsTimes clocks.system clocks.steady) began
      × LogsAll contents asks old (start_log clocks.system task served) mid
      × ServesRun task.turns
      (record {
        link = bound.link;
        held = bound.server;
        clock = initial_clock clocks task.options.cycle_ms;
        count = no_lines;
        host = began;
        process = bound.process;
        lines = numbered_lines 1 (lines_of trace);
      }) mid new after answer

  -- the ports are opened, and the device is served, with these numbers of rules and releases that
  -- hold; or it is reported why no turn is served
  pub record ServesPorts (task : ServeTask (List ℕ)) (loaded : LoadedFiles) (held : HeldCounts)
      (before after : H) (old new : WriterState W) (answer : Result ℕ WriteFault) : Type 0 where
    pub bound : Result (BoundServer L) ServeStartFault
    pub host : H
    pub binds : BindsPorts acts task
        (settings_of task.options.limit_ms
        (key_of (option_map (λ digits. digits.items) loaded.key)))
        (state_of loaded) before host bound
    pub continuation : MatchResult bound
        (λ ports. ServesBound task (served_of loaded held) ports loaded.trace.items host after
        old new answer)
        (λ why. EndsUnserved contents asks why old new answer × (after ≡ host))

  -- A verdict is printed. What follows it is done only if the permit is granted; otherwise nothing
  -- more is done.
  pub record ServesPermitted
      (Writes : WriterState W → WriterState W → Result Permit WriteFault → Type 0)
      (Goes : ℕ → WriterState W → Type 0) (before after : H) (old new : WriterState W)
      (answer : Result ℕ WriteFault) : Type 0 where
    pub permit : Result Permit WriteFault
    pub middle : WriterState W
    pub writes : Writes old middle permit
    pub continuation : AfterPermit permit
        (λ reported. (new ≡ middle) × (after ≡ before) × (answer ≡ reported))
        (λ count. Goes count middle)

  -- the releases are judged by the diagram, if one was named, and then the ports are served
  abbrev pub ServesDiagram : ServeTask (List ℕ) → LoadedFiles → ℕ → H → H → WriterState W
      → WriterState W
      → Result ℕ WriteFault → Type 0
  ServesDiagram task loaded rules before after old new answer =
      ServesPermitted (WritesOnDiagram contents asks loaded.load loaded.diagram)
      (λ releases middle. ServesPorts task loaded
      (record { rules = rules; releases = releases }) before after middle new answer) before after
      old new answer

  -- the rules are judged, if they were named, and then the diagram
  abbrev pub ServesRules : ServeTask (List ℕ) → LoadedFiles → H → H → WriterState W → WriterState W
      → Result ℕ WriteFault → Type 0
  ServesRules task loaded before after old new answer =
      ServesPermitted (WritesOnRules contents asks loaded.load loaded.rules)
      (λ rules middle. ServesDiagram task loaded rules before after middle new answer) before
      after old new answer

  -- the line of a load is printed, then the rules and the diagram are judged, and the ports are
  -- served
  pub record ServesLoaded (task : ServeTask (List ℕ)) (loaded : LoadedFiles) (before after : H)
      (old new : WriterState W) (answer : Result ℕ WriteFault) : Type 0 where
    pub report : Report
    pub is : IsReportOf loaded.load.image report
    pub middle : WriterState W
    pub reported : Result ℕ WriteFault
    pub printed : Prints contents asks (IsOutput (report_text report) 0) old middle reported
    pub continuation : AfterTurn reported ((new ≡ middle) × (after ≡ before) × (answer ≡ reported))
        (ServesRules task loaded before after middle new answer)

  -- Files are read and loaded, and their contents are served; or it is reported why no turn is
  -- served.
  pub record ServesFiles {F : Type 0} (reads : FileReads F) (guards : ProtectedReads F) (files : F)
      (task : ServeTask (List ℕ)) (before after : H) (old new : WriterState W)
      (answer : Result ℕ WriteFault) : Type 0 where
    pub loaded : Result LoadedFiles ServeStartFault
    pub loads : LoadsFiles reads guards files (form_of task.program) (name_of task.program) task
        loaded
    pub continuation : MatchResult loaded
        (λ all. ServesLoaded task all before after old new answer)
        (λ why. EndsUnserved contents asks why old new answer × (after ≡ before))
