-- What an audit of files prints, with which status, and which line is logged then, if any.
use Rattle.std.specs.Prelude.{◌≡◌, ℕ, ◌==◌, Bool, List, [], ◌++◌, codes, length, flat_map, map, zip, Option, None, Some, option_map, Result, Ok, Err, ◌⊎◌, if◌then◌else◌}
use Rattle.std.specs.List.{list_all}
use Rattle.bay_audit.specs.Rules.{AreReleases, AreRightAnswers, program_of, direction_of, directions}
use Rattle.bay_audit.specs.declared.answer.RuleAnswer.{RuleAnswer}
use Rattle.bay_audit.specs.declared.answer.Release.{Release}
use Rattle.bay_base.specs.declared.switch.Operation.{Operation}
use Rattle.bay_config.specs.declared.bay.Bay.{Bay}
use Rattle.bay_diagram_file.specs.Diagram.{diagram_of_file}
use Rattle.bay_diagram_file.specs.declared.diagram.Diagram.{Diagram}
use Rattle.bay_diagram_file.specs.declared.fault.DiagramFault.{DiagramFault}
use Rattle.bay_files.specs.Files.{FileReads, FilesData, ReadsBoth, ReadsFile, UnreadData}
use Rattle.bay_io.specs.Calls.{WriteCall}
use Rattle.bay_io.specs.Watched.{WriterState}
use Rattle.bay_io.specs.declared.outbox.WriteFault.{WriteFault}
use Rattle.bay_load.specs.Loads.{LoadData, LoadsTo, MayLoadTo}
use Rattle.bay_load.specs.Report.{IsReport}
use Rattle.bay_load.specs.declared.error.LoadError.{LoadError}
use Rattle.bay_load.specs.declared.load.Form.{Form}
use Rattle.bay_load.specs.declared.report.Report.{Report}
use Rattle.bay_report.specs.LogLines.{IsLoggedOutput, PrintsLogs, RefusalReport, UnreadReport}
use Rattle.bay_report.specs.Report.{report_text}
use Rattle.bay_audit_rules.specs.Meaning.{TextRead}
use Rattle.bay_audit_rules.specs.declared.fault.RuleFault.{RuleFault}
use Rattle.bay_audit_rules.specs.declared.rule.Rule.{Rule}
use Rattle.cmd_audit.specs.HazardText.{hazard_lines}
use Rattle.cmd_audit.specs.Judged.{AreJudged, is_safe, judged_way}
use Rattle.cmd_audit.specs.Names.{ProgramNames, program_names}
use Rattle.cmd_audit.specs.Refusals.{diagram_log, diagram_refusal}
use Rattle.cmd_audit.specs.Text.{answers_text, is_passed, refusal_text, refused_log, release_text, releases_text}
use Rattle.cmd_audit.specs.declared.audit_files.AuditContents.{AuditContents}
use Rattle.cmd_audit.specs.declared.audit_files.AuditedFiles.{AuditedFiles}
use Rattle.cmd_audit.specs.declared.judged.JudgedRelease.{JudgedRelease}

-- the status of answers: 0 if each of them holds, 4 if not
abbrev pub status_of : Bool → ℕ
status_of passed = if passed then 0 else 4

-- ---- rules

-- The text has the lines of all answers and releases: there is a release for each switch and
-- operation, also while the process is lost.
pub record IsWhole (bay : Bay) (names : ProgramNames) (rules : List Rule)
    (answers : List RuleAnswer)
    (releases : List Release) (text : List ℕ) (status : ℕ) : Type 0 where
  pub all : map direction_of releases ≡ directions (length bay.switches)
  pub written : text
      ≡ answers_text bay names (zip rules answers) ++ releases_text bay names releases
  pub ends : status ≡ status_of (list_all is_passed answers)

-- Memory ran out: the text has the lines of the first answers, then, if these are all answers,
-- those of the first releases, and then the line of the fault.
pub record IsCut (bay : Bay) (names : ProgramNames) (rules : List Rule) (answers : List RuleAnswer)
    (releases : List Release) (text : List ℕ) (status : ℕ) : Type 0 where
  pub shown : List (Rule × RuleAnswer)
  pub hidden : List (Rule × RuleAnswer)
  pub parts : zip rules answers ≡ shown ++ hidden
  pub later : List (ℕ × Operation)
  pub first : map direction_of releases ++ later ≡ directions (length bay.switches)
  pub order : (hidden ≡ []) ⊎ (releases ≡ [])
  pub written : text ≡ answers_text bay names shown
      ++ (flat_map (release_text bay names) releases ++ codes "fault memory\n")
  pub ends : status ≡ 3

-- There is an answer for each rule, in their order, and there are releases of switches. Each is
-- right, and the text has their lines, with these names for what the program retains; or only the
-- first of these lines, because memory ran out.
pub record AuditText (loaded : LoadData) (rules : List Rule) (text : List ℕ) (status : ℕ)
    : Type 0 where
  pub answers : List RuleAnswer
  pub right : AreRightAnswers (program_of loaded.bay loaded.image) rules answers
  pub releases : List Release
  pub released : AreReleases loaded.bay (program_of loaded.bay loaded.image) releases
  pub written : IsWhole loaded.bay (program_names loaded) rules answers releases text status
      ⊎ IsCut loaded.bay (program_names loaded) rules answers releases text status

-- ---- a single line diagram

-- The text has the line of each release.
pub record AreAllJudged (bay : Bay) (d : Diagram) (releases : List JudgedRelease) (text : List ℕ)
    (status : ℕ) : Type 0 where
  pub all : map judged_way releases ≡ directions (length bay.switches)
  pub written : text ≡ hazard_lines bay d releases
  pub ends : status ≡ status_of (list_all is_safe releases)

-- Memory ran out: the text has the lines of the first releases, and then the line of the fault.
pub record AreSomeJudged (bay : Bay) (d : Diagram) (releases : List JudgedRelease) (text : List ℕ)
    (status : ℕ) : Type 0 where
  pub later : List (ℕ × Operation)
  pub first : map judged_way releases ++ later ≡ directions (length bay.switches)
  pub written : text ≡ hazard_lines bay d releases ++ codes "fault memory\n"
  pub ends : status ≡ 3

-- There are judged releases of switches, opening and closing of each. Each is right, and the text
-- has their lines; or only the first of these lines, because memory ran out.
pub record Judgements (loaded : LoadData) (d : Diagram) (text : List ℕ) (status : ℕ) : Type 0 where
  pub releases : List JudgedRelease
  pub right : AreJudged (program_of loaded.bay loaded.image) d.network releases
  pub written : AreAllJudged loaded.bay d releases text status
      ⊎ AreSomeJudged loaded.bay d releases text status

-- ---- rules and a diagram

-- the text for rules, if there are some; else none, and the status of a text that holds
abbrev pub AnswersIf : LoadData → Option (List Rule) → List ℕ → ℕ → Type 0
AnswersIf loaded None text status = (text ≡ []) × (status ≡ 0)
AnswersIf loaded (Some rules) text status = AuditText loaded rules text status

-- the text for a diagram, if there is one
abbrev pub JudgementsIf : LoadData → Option Diagram → List ℕ → ℕ → Type 0
JudgementsIf loaded None text status = (text ≡ []) × (status ≡ 0)
JudgementsIf loaded (Some d) text status = Judgements loaded d text status

-- The text for rules, to its end, and then that for a diagram. The status is that of the second,
-- but if this is 0, that of the first.
pub record AnswersThenJudgements (loaded : LoadData) (rules : Option (List Rule))
    (d : Option Diagram) (text : List ℕ) (status : ℕ) : Type 0 where
  pub passed : Bool
  pub answered : List ℕ
  pub answers : AnswersIf loaded rules answered (status_of passed)
  pub judged : List ℕ
  pub ended : ℕ
  pub judgements : JudgementsIf loaded d judged ended
  pub whole : text ≡ answered ++ judged
  pub ends : status ≡ (if ended == 0 then status_of passed else ended)

-- the text for rules and for a diagram; or only that for rules, because memory ran out in it
abbrev pub AreAnswered : LoadData → Option (List Rule) → Option Diagram → List ℕ → ℕ → Type 0
AreAnswered loaded rules d text status =
    AnswersThenJudgements loaded rules d text status
    ⊎ ((status ≡ 3) × AnswersIf loaded rules text 3)

-- ---- texts that have a fault

-- what a text of rules means, if there is one
abbrev pub RulesRead : Bay → Option (List ℕ) → Result (Option (List Rule)) RuleFault → Type 0
RulesRead bay None parsed = parsed ≡ Ok None
RulesRead bay (Some text) (Ok None) = ⊥
RulesRead bay (Some text) (Ok (Some rules)) = TextRead bay text (Ok rules)
RulesRead bay (Some text) (Err fault) = TextRead bay text (Err fault)

-- what the text of a diagram file means, if there is one
abbrev pub DiagramRead : Bay → Option (List ℕ) → Result (Option Diagram) DiagramFault → Type 0
DiagramRead bay None parsed = parsed ≡ Ok None
DiagramRead bay (Some text) (Ok None) = ⊥
DiagramRead bay (Some text) (Ok (Some d)) = diagram_of_file bay text ≡ Ok d
DiagramRead bay (Some text) (Err fault) = diagram_of_file bay text ≡ Err fault

-- the text for rules and a diagram; or for a diagram file that has a fault, with the line that is
-- logged then
abbrev pub IsTextWith : LoadData → Option (List Rule) → Result (Option Diagram) DiagramFault
    → Option (List ℕ) → List ℕ → ℕ → Type 0
IsTextWith loaded rules (Ok d) log text status =
    (log ≡ None) × AreAnswered loaded rules d text status
IsTextWith loaded rules (Err fault) log text status =
    IsLoggedOutput (diagram_log fault) (diagram_refusal fault) 1 log text status

-- the text for rules that were read and the text of a diagram file
pub record IsTextBy (loaded : LoadData) (rules : Option (List Rule)) (diagram : Option (List ℕ))
    (log : Option (List ℕ)) (text : List ℕ) (status : ℕ) : Type 0 where
  pub parsed : Result (Option Diagram) DiagramFault
  pub parses : DiagramRead loaded.bay diagram parsed
  pub prints : IsTextWith loaded rules parsed log text status

-- the text for rules that were read; or for a text of rules that has a fault, with the line that is
-- logged then: the diagram file is not looked at
abbrev pub ParsedRulesReport : LoadData → Result (Option (List Rule)) RuleFault → Option (List ℕ)
    → Option (List ℕ) → List ℕ → ℕ → Type 0
ParsedRulesReport loaded (Ok rules) diagram log text status =
    IsTextBy loaded rules diagram log text status
ParsedRulesReport loaded (Err fault) diagram log text status =
    IsLoggedOutput (refused_log fault) (refusal_text fault) 1 log text status

-- the text for what was loaded, a text of rules and the text of a diagram file, with the line that
-- is logged
pub record RulesReport (loaded : LoadData) (rules diagram : Option (List ℕ)) (log : Option (List ℕ))
    (text : List ℕ) (status : ℕ) : Type 0 where
  pub parsed : Result (Option (List Rule)) RuleFault
  pub parses : RulesRead loaded.bay rules parsed
  pub prints : ParsedRulesReport loaded parsed diagram log text status

-- the line of a load, and the text for rules and a diagram, unless memory runs out before they are
-- read
pub record LoadedReport (loaded : LoadData) (rules diagram : Option (List ℕ))
    (log : Option (List ℕ)) (text : List ℕ) (status : ℕ) : Type 0 where
  pub report : Report
  pub is : IsReport loaded.image report
  pub rest : List ℕ
  pub whole : text ≡ report_text report ++ rest
  pub prints : RulesReport loaded rules diagram log rest status
      ⊎ IsLoggedOutput None (codes "fault memory\n") 3 log rest status

-- ---- the load

-- the octets of the files of an audit: the bay, a program or an image, and rules and a diagram, if
-- they were named
pub record AuditOctets : Type 0 where
  pub both : FilesData
  pub rules : Option (List ℕ)
  pub diagram : Option (List ℕ)

-- the bay file and the program are loaded
pub record LoadAccepted (form : Form) (octets : AuditOctets) (log : Option (List ℕ)) (text : List ℕ)
    (status : ℕ) : Type 0 where
  pub loaded : LoadData
  pub loads : LoadsTo octets.both.bay form octets.both.program (Ok loaded)
  pub reports : LoadedReport loaded octets.rules octets.diagram log text status

-- the load is refused
pub record LoadRefused (form : Form) (octets : AuditOctets) (log : Option (List ℕ))
    (text : List ℕ) (status : ℕ) : Type 0 where
  pub error : LoadError
  pub refused : MayLoadTo octets.both.bay form octets.both.program (Err error)
  pub reports : RefusalReport error log text status

-- an audit of these octets
abbrev pub AuditReport : Form → AuditOctets → Option (List ℕ) → List ℕ → ℕ → Type 0
AuditReport form octets log text status =
    LoadAccepted form octets log text status ⊎ LoadRefused form octets log text status

-- ---- files

-- the names of the files of an audit
pub record AuditNames : Type 0 where
  pub bay : List ℕ
  pub form : Form
  pub program : List ℕ
  pub rules : Option (List ℕ)
  pub diagram : Option (List ℕ)

-- the names of the files, as the code has them
abbrev pub names_of : AuditedFiles → AuditNames
names_of named = record {
  bay = named.bay.now;
  form = named.form;
  program = named.program.now;
  rules = option_map (λ name. name.now) named.rules;
  diagram = option_map (λ name. name.now) named.diagram;
}

-- the octets of the files, as the code has them
abbrev pub octets_of : AuditContents → AuditOctets
octets_of contents = record {
  both = record { bay = contents.both.bay.items; program = contents.both.program.items };
  rules = contents.texts.rules;
  diagram = contents.texts.diagram;
}

-- a file was read, if it was named
abbrev pub ReadsOptional : {F : Type 0} → FileReads F → F → Option (List ℕ)
    → Result (Option (List ℕ)) UnreadData → Type 0
ReadsOptional reads files None read = read ≡ Ok None
ReadsOptional reads files (Some name) (Ok None) = ⊥
ReadsOptional reads files (Some name) (Ok (Some octets)) = ReadsFile reads files name (Ok octets)
ReadsOptional reads files (Some name) (Err unread) = ReadsFile reads files name (Err unread)

-- The files were read: the bay, the program or the image, and the rules and the diagram, if they
-- were named; or the first of them that could not be read.
abbrev pub ReadsAll : {F : Type 0} → FileReads F → F → AuditNames → Result AuditOctets UnreadData
    → Type 0
ReadsAll reads files named (Ok octets) =
    ReadsBoth reads files named.bay named.program (Ok octets.both)
    × ReadsOptional reads files named.rules (Ok octets.rules)
    × ReadsOptional reads files named.diagram (Ok octets.diagram)
ReadsAll reads files named (Err unread) =
    ReadsBoth reads files named.bay named.program (Err unread)
    ⊎ ((both : FilesData) × ReadsBoth reads files named.bay named.program (Ok both)
    × (ReadsOptional reads files named.rules (Err unread)
    ⊎ ((rules : Option (List ℕ)) × ReadsOptional reads files named.rules (Ok rules)
    × ReadsOptional reads files named.diagram (Err unread))))

-- an audit by the result of reading its files; the text of a fault if one can't be read
abbrev pub AuditsRead : {W : Type 0} → (W → Option (List ℕ)) → (W → WriteCall → W → Type 0) → Form
    → Result AuditOctets UnreadData → WriterState W → WriterState W → Result ℕ WriteFault → Type 0
AuditsRead contents asks form (Err unread) old new answer =
    PrintsLogs contents asks (UnreadReport unread.name unread.fault) old new answer
AuditsRead contents asks form (Ok octets) old new answer =
    PrintsLogs contents asks (AuditReport form octets) old new answer

-- an audit of a bay file, a program or an image, and rules, a diagram or both, by their names
pub record Audits {F W : Type 0} (reads : FileReads F) (contents : W → Option (List ℕ))
    (asks : W → WriteCall → W → Type 0) (named : AuditNames) (files : F) (old new : WriterState W)
    (answer : Result ℕ WriteFault) : Type 0 where
  pub read : Result AuditOctets UnreadData
  pub is_read : ReadsAll reads files named read
  pub does : AuditsRead contents asks named.form read old new answer
