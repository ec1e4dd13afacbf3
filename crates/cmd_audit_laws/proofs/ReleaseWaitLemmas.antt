-- The scans of each service and of each replay wait for the rules with `until`.
use Rattle.std.proofs.Common.{◌≡◌, ◌<◌, ℕ, true, List, [], length, Option, Some, Result, Ok, Err, inl, inr, refl, subst}
use Rattle.bay_audit.specs.Rules.{IsRightAnswer, program_of}
use Rattle.bay_audit.specs.declared.answer.RuleAnswer.{RuleAnswer}
use Rattle.bay_audit.specs.declared.answer.RuleAnswer.TheVariants.{Broken, Holds, Open, Since, TooMany}
use Rattle.bay_audit_rules.specs.Meaning.{TextRead}
use Rattle.bay_audit_rules.specs.declared.fault.RuleFault.{RuleFault}
use Rattle.bay_audit_rules.specs.declared.rule.Rule.{Rule}
use Rattle.bay_audit_rules.specs.declared.rule.RuleKind.TheVariants.{Never}
use Rattle.bay_audit_rules.specs.declared.rule.Timing.{Timing}
use Rattle.bay_config.specs.declared.bay.Bay.{Bay}
use Rattle.bay_device.specs.Device.{State}
use Rattle.bay_device.specs.Load.{LoadsDevice, device_of}
use Rattle.bay_files.specs.Files.{ProtectedReads, FileReads, FilesData}
use Rattle.bay_io.specs.Calls.{WriteCall}
use Rattle.bay_load.specs.Loads.{IsImageOf, LoadData, LoadsTo, parsed_bay}
use Rattle.bay_load.proofs.LoadLemmas.{load-made}
use Rattle.bay_load.specs.declared.load.Form.{Form}
use Rattle.bay_load.specs.declared.load.Form.TheVariants.{Logic}
use Rattle.bay_server_turn.specs.Calls.{Call}
use Rattle.bay_server_turn.specs.Recorded.{Recording}
use Rattle.bay_server.specs.Host.{HostCall}
use Rattle.cmd_audit.specs.Judging.{IsVerdictOn, JudgesRead}
use Rattle.cmd_audit.specs.Text.{is_passed}
use Rattle.cmd_audit.specs.declared.judging.RulesVerdict.TheVariants as judged
use Rattle.cmd_serve.specs.Serve.{data_of, form_of, new_server, state_of}
use Rattle.cmd_serve.specs.Service.{AreTurns, DoneTurn, past_of}
use Rattle.cmd_serve.proofs.HistoryLemmas.{stands-first}
use Rattle.cmd_serve.proofs.TurnLemmas.{stands-turns}
use Rattle.il_image.specs.Images.{Image}
use Rattle.cmd_audit_laws.specs.ScanWaits.{AuditedScansWait, GuardedScansWait, Passes, PastScansWait, ReplayedScansWait, ScansWaitForRules, ServedScansWait}
use Rattle.cmd_audit_laws.specs.Guarded.{ObeyFile}
use Rattle.cmd_audit_laws.specs.Served.{IsFile}
use Rattle.cmd_audit_laws.proofs.AuditLemmas.{audited, begins, text-begins}
use Rattle.cmd_audit_laws.proofs.GuardLemmas.{passed-at, read-text}
use Rattle.cmd_audit_laws.proofs.ObeyLemmas.{AreGiven, turns-typed}
use Rattle.cmd_audit_laws.proofs.ReplayLemmas.{lines-typed}
use Rattle.cmd_audit_laws.proofs.RuleLemmas.{rule-there}
use Rattle.cmd_audit_laws.proofs.ScanWaitLemmas.{passed-waits}
use Rattle.cmd_audit_laws.proofs.ServeLemmas.{RulesHold, files-is}

-- ---- a device that octets load to, in turns

module _ (f : Form) (both : FilesData) (device : State)
    (loads : LoadsDevice both.bay f both.program device) (recording : Option Recording)
    (ts : List DoneTurn)
    (are : AreTurns (new_server recording device) ts) (given : AreGiven ts)
    (file : IsFile f both.program) where
  -- the scans of the turns wait for a rule that an audit passes
  turns-wait-for : (own : Bay) (image : Image) → parsed_bay both.bay ≡ Ok own
      → IsImageOf f both.program own image → (rule : Rule) (timing : Timing)
      → rule.switch < length own.switches → rule.kind ≡ Never → rule.timed ≡ Some timing
      → (answer : RuleAnswer) → Passes answer
      → IsRightAnswer (program_of own image) rule answer
      → PastScansWait rule timing device (past_of ts (new_server recording device) [])
  turns-wait-for own image read made rule timing there never timed answer passes right =
      let b = begins both.bay f both.program device loads file own image read made in
      let stands =
      stands-turns device ts (new_server recording device) []
      (stands-first device (own, image, b.is)) in
      passed-waits own image b.sound rule timing there never timed answer passes right b.steady
      device b.is (past_of ts (new_server recording device) []) stands.steps
      (turns-typed device ts (new_server recording device) [] are given tt)

-- ---- rules of an audit

loaded-waits : (f : Form) (both : FilesData) (device : State)
    → LoadsDevice both.bay f both.program device → (recording : Option Recording)
    → (ts : List DoneTurn)
    → AreTurns (new_server recording device) ts → AreGiven ts
    → AuditedScansWait f both (new_server recording device) ts
loaded-waits f both device loads recording ts are given file rules rule timing never timed is =
    let o = audited both.bay f both.program Passes rule rules is in
    turns-wait-for f both device loads recording ts are given file o.own o.image o.read o.made rule
    timing o.there never timed o.answer o.how o.right

-- ---- rules with which a service was started

passes-so : (answer : RuleAnswer) → is_passed answer ≡ true → Passes answer
passes-so (Holds cases) passed = tt
passes-so (Since n cases) passed = tt
passes-so (Broken case) passed = absurd cc
passes-so (Open case kept) passed = absurd cc
passes-so TooMany passed = absurd cc

module _ (f : Form) (both : FilesData) (l : LoadData)
    (loads : LoadsTo both.bay f both.program (Ok l)) (text : List ℕ) (count : ℕ)
    (file : IsFile f both.program) (recording : Option Recording) (ts : List DoneTurn)
    (are : AreTurns (new_server recording (device_of l)) ts) (given : AreGiven ts) where
  read-waits : (parsed : Result (List Rule) RuleFault) → TextRead l.bay text parsed
      → JudgesRead l parsed (judged.Hold count)
      → ScansWaitForRules both.bay text (new_server recording (device_of l)) ts
  read-waits (Err fault) parses judges = absurd cc
  read-waits (Ok rules) parses judges =
      let made = load-made both.bay f both.program l loads in
      record {
        own = l.bay;
        read = made.read;
        rules = rules;
        parses = parses;
        waited = λ place rule timing here never timed.
            let p = passed-at (program_of l.bay l.image) rules judges.answers judges.right
            judges.judged.0 place rule here in
            turns-wait-for f both (device_of l) (l, loads, refl) recording ts are given file l.bay
            l.image made.read made.made rule timing
            (rule-there l.bay text rules parses place rule here) never timed p.answer
            (passes-so p.answer p.passed) p.right;
      }

  hold-waits : IsVerdictOn l text (judged.Hold count)
      → ScansWaitForRules both.bay text (new_server recording (device_of l)) ts
  hold-waits (inl memory) = absurd cc
  hold-waits (inr judges) = read-waits judges.parsed judges.parses judges.judges

-- ---- services

module _ {F L H W : Type 0} (step : L → Call → L → Type 0) (acts : H → HostCall L → H → Type 0)
    (contents : W → Option (List ℕ)) (asks : W → WriteCall → W → Type 0) (reads : FileReads F)
    (guards : ProtectedReads F) where
  pub served-scans-wait : ServedScansWait step acts contents asks reads guards
  served-scans-wait files task before after old new answer serves =
      files-is step acts contents asks reads guards files task
      (AuditedScansWait (form_of task.program))
      (λ loaded loads rules diagram. loaded-waits (form_of task.program) (data_of loaded)
      (state_of loaded) (loaded.load, loads.6, refl)) before after old new answer serves.loaded
      serves.loads
      serves.continuation

  pub guarded-scans-wait : GuardedScansWait step acts contents asks reads guards
  guarded-scans-wait files task before after old new answer serves name is =
      files-is step acts contents asks reads guards files task
      (ObeyFile reads ScansWaitForRules files name (form_of task.program))
      (λ loaded loads rules diagram recording ts are given file.
      let read = read-text reads files task.options.rules name is loaded.rules loads.3 in
      let hold = subst (RulesHold loaded.load) read.2 rules in (
        read.0,
        read.1,
        hold-waits (form_of task.program) (data_of loaded) loaded.load loads.6 read.0 hold.0 file
            recording ts are given hold.1,
      )) before after old new answer serves.loaded serves.loads serves.continuation

-- ---- replays

pub replayed-scans-wait : ReplayedScansWait
replayed-scans-wait parts first text status run rules rule timing never timed is =
    let o = audited parts.bay Logic parts.logic Passes rule rules is in
    let b = text-begins parts.bay parts.logic first run.loaded run.runs o.own o.image o.read o.made
    in
    passed-waits o.own o.image b.sound rule timing o.there never timed o.answer o.how o.right
    b.steady first b.is run.past run.steps
    (lines-typed first run.past run.printed.lines run.printed.events)
