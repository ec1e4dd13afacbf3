-- The turns of a service that was started with rules.
use Rattle.std.proofs.Common.{◌≡◌, ◌∙◌, ◌<◌, ℕ, zero, suc, Bool, true, false, List, [], ◌∷◌, length, Option, Some, None, Result, Ok, Err, inl, inr, sym, subst, refl}
use Rattle.std.specs.Prelude.{MatchOption, slice_get}
use Rattle.std.specs.List.{list_all}
use Rattle.std.proofs.lemmas.Bool.{and_parts}
use Rattle.bay_audit.specs.Rules.{AreRightAnswers, BoundProgram, IsAnswer, IsRightAnswer, IsTimedAnswer, plain_demand, program_of}
use Rattle.bay_audit.specs.declared.answer.RuleAnswer.{RuleAnswer}
use Rattle.bay_audit.specs.declared.answer.RuleAnswer.TheVariants.{Broken, Holds, Open, Since, TooMany}
use Rattle.bay_audit_rules.specs.Meaning.{TextRead}
use Rattle.bay_audit_rules.specs.declared.fault.RuleFault.{RuleFault}
use Rattle.bay_audit_rules.specs.declared.rule.Rule.{Rule}
use Rattle.bay_audit_rules.specs.declared.rule.RuleKind.TheVariants.{Never}
use Rattle.bay_audit_rules.specs.declared.rule.Timing.{Timing}
use Rattle.bay_audit_hazards.specs.Judged.{is_hazard_of}
use Rattle.bay_config.specs.declared.bay.Bay.{Bay}
use Rattle.bay_diagram_file.specs.Diagram.{diagram_of_file}
use Rattle.bay_diagram_file.specs.declared.diagram.Diagram.{Diagram}
use Rattle.bay_diagram_file.specs.declared.fault.DiagramFault.{DiagramFault}
use Rattle.bay_device.specs.Device.{State}
use Rattle.bay_device.specs.Fresh.{PastEvent}
use Rattle.bay_device.specs.Load.{LoadsDevice, device_of}
use Rattle.bay_files.specs.Files.{ProtectedReads, FileReads, FilesData, ReadsFile}
use Rattle.bay_io.specs.Calls.{WriteCall}
use Rattle.bay_load.specs.Loads.{IsImageOf, LoadData, LoadsTo, parsed_bay}
use Rattle.bay_load.proofs.LoadLemmas.{load-made}
use Rattle.bay_load.specs.declared.load.Form.{Form}
use Rattle.bay_server_turn.specs.Calls.{Call}
use Rattle.bay_server_turn.specs.Recorded.{Recording}
use Rattle.bay_server_turn.specs.Turns.{ServerData}
use Rattle.bay_server_turn_laws.specs.Events.{turn_events}
use Rattle.bay_server.specs.Host.{HostCall}
use Rattle.cmd_audit.specs.Judging.{IsVerdictOn, JudgesRead}
use Rattle.cmd_audit.specs.Text.{is_passed}
use Rattle.cmd_audit.specs.Auditing.{ReadsOptional}
use Rattle.cmd_audit.specs.JudgingDiagram.{IsDiagramVerdictOn, JudgesDiagramRead}
use Rattle.cmd_audit.specs.declared.judging.RulesVerdict.TheVariants as judged
use Rattle.cmd_audit.specs.declared.judging_diagram.DiagramVerdict.TheVariants as drawn
use Rattle.cmd_serve.specs.Serve.{data_of, form_of, new_server}
use Rattle.cmd_serve.specs.Service.{AreTurns, DoneTurn, server_after, past_after}
use Rattle.il_image.specs.Images.{Image}
use Rattle.cmd_audit_laws.specs.Audited.{ByTimer, Plainly}
use Rattle.cmd_audit_laws.specs.Guarded.{GuardedCommandsAreHarmless, GuardedCommandsObey, ObeyDiagram, ObeyFile, ObeyRules, TurnsObey}
use Rattle.cmd_audit_laws.specs.Served.{IsFile, OrdersObey}
use Rattle.cmd_audit_laws.specs.Waits.{OrdersWait, scans_after_events}
use Rattle.cmd_audit_laws.proofs.AuditLemmas.{OfOctets}
use Rattle.cmd_audit_laws.proofs.HarmlessLemmas.{all-harmless}
use Rattle.cmd_audit_laws.proofs.ObeyLemmas.{AreGiven}
use Rattle.cmd_audit_laws.proofs.RuleLemmas.{rule-there}
use Rattle.cmd_audit_laws.proofs.ServeLemmas.{DiagramHolds, RulesHold, files-is, orders-avoid, orders-obey, orders-wait, scans-obey}

-- ---- the answers to rules, each of which holds

-- a rule has an answer that it holds, and this is right
pub record Passed (g : BoundProgram) (rule : Rule) : Type 0 where
  pub answer : RuleAnswer
  pub passed : is_passed answer ≡ true
  pub right : IsRightAnswer g rule answer

pub passed-at : (g : BoundProgram) (rules : List Rule) (answers : List RuleAnswer)
    → AreRightAnswers g rules answers → list_all is_passed answers ≡ true
    → (place : ℕ) (rule : Rule) → slice_get rules place ≡ Some rule → Passed g rule
passed-at g [] answers right all place rule here = absurd cc
passed-at g (r ∷ rules) [] right all place rule here = absurd right
passed-at g (r ∷ rules) (a ∷ answers) right all zero rule here =
    let same : r ≡ rule = cc in
    subst (Passed g) same (record {
      answer = a;
      passed = (and_parts (is_passed a) (list_all is_passed answers) all).0;
      right = right.0;
    })
passed-at g (r ∷ rules) (a ∷ answers) right all (suc place) rule here =
    passed-at g rules answers right.1
    (and_parts (is_passed a) (list_all is_passed answers) all).1 place rule here

-- no timer establishes a rule without a time
plain-since : (g : BoundProgram) (rule : Rule) (n cases : ℕ) → rule.timed ≡ None
    → IsRightAnswer g rule (Since n cases) → ⊥
plain-since g rule n cases plain right =
    subst (λ (o : Option Timing). MatchOption o (IsAnswer g (plain_demand rule) (Since n cases))
    (λ timing. IsTimedAnswer g rule timing (Since n cases))) plain right

-- commands that obey a rule wait for its time
waits-so : (rule : Rule) (timing : Timing) → rule.kind ≡ Never → (first : State) (h : ServerData)
    (scans : List (ℕ × Bool)) (past : List PastEvent) (ts : List DoneTurn)
    → OrdersObey rule first h past ts → OrdersWait rule timing first h scans past ts
waits-so rule timing never first h scans past [] obeys = tt
waits-so rule timing never first h scans past (t ∷ ts) obeys = (
  λ command o switch operation how.
      let both : false ≡ true = sym (obeys.0 command o switch operation) ∙ how in absurd cc,
  waits-so rule timing never first (server_after t h)
      (scans_after_events timing.condition t.now (turn_events t.now t.given t.script h) h.device
      scans)
      (past_after t.now (turn_events t.now t.given t.script h) h.device past) ts obeys.2,
)

-- ---- a device that these octets load to

module _ (f : Form) (both : FilesData) (device : State)
    (loads : LoadsDevice both.bay f both.program device) (recording : Option Recording)
    (ts : List DoneTurn)
    (are : AreTurns (new_server recording device) ts) (given : AreGiven ts)
    (file : IsFile f both.program)
    (rule : Rule) where
  plainly-obeys : OfOctets Plainly both.bay f both.program rule
      → TurnsObey rule (new_server recording device) ts
  plainly-obeys own = record {
    scans = λ plain. scans-obey f both device loads recording ts are given file rule plain own;
    obey = λ never plain. orders-obey f both device loads recording ts are given file rule never
        own;
    wait = λ timing never timed. waits-so rule timing never device (new_server recording device) []
        [] ts
        (orders-obey f both device loads recording ts are given file rule never own);
  }

  by-timer-obeys : (own : OfOctets ByTimer both.bay f both.program rule)
      → (rule.timed ≡ None → ⊥) → TurnsObey rule (new_server recording device) ts
  by-timer-obeys own timed = record {
    scans = λ plain. absurd (timed plain);
    obey = λ never plain. absurd (timed plain);
    wait = λ timing never time. orders-wait f both device loads recording ts are given file rule
        timing never
        time own;
  }

  passed-obeys : (own : Bay) (image : Image) → parsed_bay both.bay ≡ Ok own
      → IsImageOf f both.program own image → rule.switch < length own.switches
      → (answer : RuleAnswer) → is_passed answer ≡ true
      → IsRightAnswer (program_of own image) rule answer
      → TurnsObey rule (new_server recording device) ts
  passed-obeys own image read made there (Holds cases) passed right =
      plainly-obeys (record {
        own = own;
        read = read;
        image = image;
        made = made;
        there = there;
        answer = Holds cases;
        how = tt;
        right = right;
      })
  passed-obeys own image read made there (Since n cases) passed right =
      by-timer-obeys (record {
        own = own;
        read = read;
        image = image;
        made = made;
        there = there;
        answer = Since n cases;
        how = tt;
        right = right;
      }) (λ plain. plain-since (program_of own image) rule n cases plain right)
  passed-obeys own image read made there (Broken case) passed right = absurd cc
  passed-obeys own image read made there (Open case kept) passed right = absurd cc
  passed-obeys own image read made there TooMany passed right = absurd cc

-- rules whose verdict is that each holds
module _ (f : Form) (both : FilesData) (l : LoadData)
    (loads : LoadsTo both.bay f both.program (Ok l)) (text : List ℕ) (count : ℕ) where
  read-obeys : (file : IsFile f both.program) (recording : Option Recording)
      (ts : List DoneTurn) → AreTurns (new_server recording (device_of l)) ts → AreGiven ts
      → (parsed : Result (List Rule) RuleFault) → TextRead l.bay text parsed
      → JudgesRead l parsed (judged.Hold count)
      → ObeyRules both.bay text (new_server recording (device_of l)) ts
  read-obeys file recording ts are given (Ok rules) parses judges =
      let made = load-made both.bay f both.program l loads in
      record {
        own = l.bay;
        read = made.read;
        rules = rules;
        parses = parses;
        obeyed = λ place rule here.
            let p = passed-at (program_of l.bay l.image) rules judges.answers judges.right
            judges.judged.0 place rule here in
            passed-obeys f both (device_of l) (l, loads, refl) recording ts are given file rule
            l.bay l.image
            made.read made.made (rule-there l.bay text rules parses place rule here) p.answer
            p.passed p.right;
      }
  read-obeys file recording ts are given (Err fault) parses judges = absurd cc

  holds-obeys : (file : IsFile f both.program) (recording : Option Recording)
      (ts : List DoneTurn) → AreTurns (new_server recording (device_of l)) ts → AreGiven ts
      → IsVerdictOn l text (judged.Hold count)
      → ObeyRules both.bay text (new_server recording (device_of l)) ts
  holds-obeys file recording ts are given (inl memory) = absurd cc
  holds-obeys file recording ts are given (inr judges) =
      read-obeys file recording ts are given judges.parsed judges.parses judges.judges

-- a diagram in which each release is judged to hold
module _ (f : Form) (both : FilesData) (l : LoadData)
    (loads : LoadsTo both.bay f both.program (Ok l)) (text : List ℕ) (count : ℕ)
    (file : IsFile f both.program) (recording : Option Recording) (ts : List DoneTurn)
    (are : AreTurns (new_server recording (device_of l)) ts)
    (given : AreGiven ts) where
  drawn-obeys : (parsed : Result Diagram DiagramFault) → diagram_of_file l.bay text ≡ parsed
      → JudgesDiagramRead l parsed (drawn.Hold count)
      → ObeyDiagram both.bay text (new_server recording (device_of l)) ts
  drawn-obeys (Err fault) parses judges = absurd cc
  drawn-obeys (Ok d) parses judges =
      let made = load-made both.bay f both.program l loads in
      record {
        own = l.bay;
        read = made.read;
        drawn = d;
        parses = parses;
        obeyed = λ k operation there.
            orders-avoid f both (device_of l) (l, loads, refl) recording ts are given file l.bay
            l.image
            made.read made.made (is_hazard_of d.network k operation) k operation there
            (all-harmless (program_of l.bay l.image) d.network (length l.bay.switches)
            judges.releases judges.right judges.judged.0 judges.all k operation there);
      }

  diagram-obeys : IsDiagramVerdictOn l text (drawn.Hold count)
      → ObeyDiagram both.bay text (new_server recording (device_of l)) ts
  diagram-obeys (inl memory) = absurd cc
  diagram-obeys (inr judges) = drawn-obeys (diagram_of_file l.bay text) refl judges

-- ---- the turns of a service

-- a file that was named was read
pub read-text : {F : Type 0} (reads : FileReads F) (files : F) (named : Option (List ℕ)) (name : List ℕ)
    → named ≡ Some name → (octets : Option (List ℕ)) → ReadsOptional reads files named (Ok octets)
    → (text : List ℕ) × ReadsFile reads files name (Ok text) × (octets ≡ Some text)
read-text reads files named name is octets read =
    by-octets octets (subst (λ n. ReadsOptional reads files n (Ok octets)) is read)
  where
    by-octets : (octets : Option (List ℕ)) → ReadsOptional reads files (Some name) (Ok octets)
        → (text : List ℕ) × ReadsFile reads files name (Ok text) × (octets ≡ Some text)
    by-octets None read = absurd read
    by-octets (Some text) read = (text, read, refl)

module _ {F L H W : Type 0} (step : L → Call → L → Type 0) (acts : H → HostCall L → H → Type 0)
    (contents : W → Option (List ℕ)) (asks : W → WriteCall → W → Type 0) (reads : FileReads F)
    (guards : ProtectedReads F) where
  pub guarded-obey : GuardedCommandsObey step acts contents asks reads guards
  guarded-obey files task before after old new answer serves name is =
      files-is step acts contents asks reads guards files task
      (ObeyFile reads ObeyRules files name (form_of task.program))
      (λ loaded loads rules diagram recording ts are given file.
      let read = read-text reads files task.options.rules name is loaded.rules loads.3 in
      let hold = subst (RulesHold loaded.load) read.2 rules in (
        read.0,
        read.1,
        holds-obeys (form_of task.program) (data_of loaded) loaded.load loads.6 read.0 hold.0 file
            recording ts are given
            hold.1,
      )) before after old new answer serves.loaded serves.loads serves.continuation

  pub guarded-harmless : GuardedCommandsAreHarmless step acts contents asks reads guards
  guarded-harmless files task before after old new answer serves name is =
      files-is step acts contents asks reads guards files task
      (ObeyFile reads ObeyDiagram files name (form_of task.program))
      (λ loaded loads rules diagram recording ts are given file.
      let read = read-text reads files task.options.diagram name is loaded.diagram loads.4 in
      let hold = subst (DiagramHolds loaded.load) read.2 diagram in (
        read.0,
        read.1,
        diagram-obeys (form_of task.program) (data_of loaded) loaded.load loads.6 read.0 hold.0 file
            recording ts are
            given hold.1,
      )) before after old new answer serves.loaded serves.loads serves.continuation
