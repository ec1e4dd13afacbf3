-- What an audit answers of octets, and a device that they load to.
use Rattle.std.proofs.Common.{◌≡◌, ◌⊎◌, ◌<◌, ℕ, zero, suc, List, [], ◌∷◌, length, Option, Some, None, Result, Ok, Err, inl, inr, ap, sym, subst, ◌∙◌}
use Rattle.std.specs.Prelude.{MatchOption, slice_get}
use Rattle.bay_audit.specs.Rules.{AreRightAnswers, BoundProgram, IsAnswer, IsByTimer, IsRightAnswer, RuleHolds, IsTimedAnswerOf, IsTimedAnswer, plain_demand, program_of}
use Rattle.bay_audit.specs.declared.answer.RuleAnswer.{RuleAnswer}
use Rattle.bay_audit.specs.declared.answer.RuleAnswer.TheVariants.{Broken, Holds, Open, Since, TooMany}
use Rattle.cmd_audit.specs.Auditing.{AnswersIf, AreAnswered, AuditOctets, AuditReport, DiagramRead, RulesReport, ParsedRulesReport, IsTextWith, JudgementsIf, RulesRead, status_of}
use Rattle.bay_audit_hazards.specs.Judged.{IsHarmless}
use Rattle.bay_base.specs.declared.switch.Operation.{Operation}
use Rattle.bay_config.specs.Laws.{IsBay}
use Rattle.bay_config.specs.declared.bay.Bay.{Bay}
use Rattle.bay_config.specs.declared.fault.BayFault.{BayFault}
use Rattle.bay_device.specs.Device.{State}
use Rattle.bay_diagram.specs.declared.network.Network.{Network}
use Rattle.bay_diagram_file.specs.declared.diagram.Diagram.{Diagram}
use Rattle.bay_diagram_file.specs.declared.fault.DiagramFault.{DiagramFault}
use Rattle.bay_device.specs.Load.{IsLoaded, LoadsDevice, initial_device}
use Rattle.bay_device.specs.Meaning.{Runs}
use Rattle.bay_device.proofs.LoadedLemmas.{device-loaded, file-sound, loaded-runs}
use Rattle.bay_load.specs.Loads.{IsCompiled, IsImageOf, LoadData, LoadsTo, parsed_bay, parsed_program}
use Rattle.bay_load.specs.declared.load.Form.{Form}
use Rattle.bay_load.specs.declared.load.Form.TheVariants as form
use Rattle.bay_load.proofs.LoadLemmas.{load-made}
use Rattle.bay_audit_rules.specs.declared.fault.RuleFault.{RuleFault}
use Rattle.bay_audit_rules.specs.declared.rule.Rule.{Rule}
use Rattle.bay_audit_rules.specs.declared.rule.RuleKind.{RuleKind}
use Rattle.bay_audit_rules.specs.declared.rule.RuleKind.TheVariants.{Never}
use Rattle.bay_audit_rules.specs.declared.rule.Timing.{Timing}
use Rattle.il_check.specs.Checking.{checked_of}
use Rattle.il_compile.specs.Compiled.{compiled_of}
use Rattle.il_image.specs.Decoding.{decoded_image}
use Rattle.il_image.specs.Images.{Image}
use Rattle.il_image.specs.Octets.{AreOctets}
use Rattle.il_verify.specs.Verdicts.{IsVerified}
use Rattle.il_text.specs.Listing.{PlainProgram}
use Rattle.il_text.specs.declared.fault.TextFault.{TextFault}
use Rattle.cmd_audit_laws.specs.Audited.{AfterLoad, AnswersRule, AnswersRuleIn, ByTimer, IfDrawn, IfRead, InAudit, IsAudited, IsHeldByAudit, JudgesRelease, JudgesReleaseIn, OnAnswers, Plainly, octets_with}
use Rattle.cmd_audit_laws.specs.Served.{IsFile}
use Rattle.cmd_audit_laws.proofs.HarmlessLemmas.{held-harmless, judged-there, said-ways}
use Rattle.cmd_audit_laws.proofs.RuleLemmas.{rule-there}
use Rattle.cmd_audit_laws.proofs.SoundLemmas.{Steady, image-sound}

-- ---- what an audit answers

right-at : (g : BoundProgram) (rules : List Rule) (answers : List RuleAnswer) (index : ℕ)
    (rule : Rule)
    (answer : RuleAnswer) → AreRightAnswers g rules answers → slice_get rules index ≡ Some rule
    → slice_get answers index ≡ Some answer → IsRightAnswer g rule answer
right-at g [] answers index rule answer right here answered = absurd cc
right-at g (r ∷ rules) [] index rule answer right here answered = absurd right
right-at g (r ∷ rules) (a ∷ answers) zero rule answer right here answered =
    let same : r ≡ rule = cc in
    let is : a ≡ answer = cc in
    subst (λ (r : Rule). IsRightAnswer g r answer) same (subst (IsRightAnswer g r) is right.0)
right-at g (r ∷ rules) (a ∷ answers) (suc index) rule answer right here answered =
    right-at g rules answers index rule answer right.1 here answered

-- a rule that forbids, and is answered so, holds whether it has a time or not
pub right-rule : (g : BoundProgram) (rule : Rule) (answer : RuleAnswer) → rule.kind ≡ Never
    → Plainly answer → IsRightAnswer g rule answer → RuleHolds g rule
right-rule g rule (Holds cases) never how right = by-timed rule.timed right
  where
    by-timed : (timed : Option Timing) → MatchOption timed
        (IsAnswer g (plain_demand rule) (Holds cases))
        (λ timing. IsTimedAnswer g rule timing (Holds cases)) → RuleHolds g rule
    by-timed None h = h
    by-timed (Some timing) h =
        subst (λ (kind : RuleKind). IsTimedAnswerOf kind g rule timing (Holds cases)) never h
right-rule g rule (Broken case) never how right = absurd how
right-rule g rule (Open case kept) never how right = absurd how
right-rule g rule TooMany never how right = absurd how
right-rule g rule (Since n cases) never how right = absurd how

-- so does each rule without a time
pub plain-rule : (g : BoundProgram) (rule : Rule) (answer : RuleAnswer) → rule.timed ≡ None
    → Plainly answer → IsRightAnswer g rule answer → RuleHolds g rule
plain-rule g rule (Holds cases) plain how right =
    subst (λ (o : Option Timing). MatchOption o (IsAnswer g (plain_demand rule) (Holds cases))
    (λ timing. IsTimedAnswer g rule timing (Holds cases))) plain right
plain-rule g rule (Broken case) plain how right = absurd how
plain-rule g rule (Open case kept) plain how right = absurd how
plain-rule g rule TooMany plain how right = absurd how
plain-rule g rule (Since n cases) plain how right = absurd how

-- A timer bears a rule with a time that forbids.
pub record Borne (g : BoundProgram) (rule : Rule) (timing : Timing) : Type 0 where
  pub timer : ℕ
  pub bears : IsByTimer g rule timing timer

pub right-timer : (g : BoundProgram) (rule : Rule) (timing : Timing) (answer : RuleAnswer)
    → rule.kind ≡ Never → rule.timed ≡ Some timing → ByTimer answer → IsRightAnswer g rule answer
    → Borne g rule timing
right-timer g rule timing (Since n cases) never timed how right =
    let until : IsTimedAnswer g rule timing (Since n cases) =
    subst (λ (o : Option Timing). MatchOption o (IsAnswer g (plain_demand rule) (Since n cases))
    (λ timing. IsTimedAnswer g rule timing (Since n cases))) timed right in
    record {
      timer = n;
      bears = subst (λ (kind : RuleKind). IsTimedAnswerOf kind g rule timing (Since n cases)) never
          until;
    }
right-timer g rule timing (Holds cases) never timed how right = absurd how
right-timer g rule timing (Broken case) never timed how right = absurd how
right-timer g rule timing (Open case kept) never timed how right = absurd how
right-timer g rule timing TooMany never timed how right = absurd how

-- A rule of a switch of the bay is answered so, and rightly, of the program that octets come to on
-- it.
pub record OfOctets (How : RuleAnswer → Type 0) (bay : List ℕ) (form : Form) (program : List ℕ)
    (rule : Rule) : Type 0 where
  pub own : Bay
  pub read : parsed_bay bay ≡ Ok own
  pub image : Image
  pub made : IsImageOf form program own image
  pub there : rule.switch < length own.switches
  pub answer : RuleAnswer
  pub how : How answer
  pub right : IsRightAnswer (program_of own image) rule answer

-- A release of a switch of the bay is harmless in a network, of the program that octets come to on
-- it.
pub record HarmlessOfOctets (bay : List ℕ) (form : Form) (program : List ℕ) (net : Network)
    (k : ℕ) (operation : Operation) : Type 0 where
  pub own : Bay
  pub read : parsed_bay bay ≡ Ok own
  pub image : Image
  pub made : IsImageOf form program own image
  pub there : k < length own.switches
  pub harmless : IsHarmless (program_of own image) net k operation

pub same-bay : (file : Result Bay BayFault) (a b : Bay) → file ≡ Ok a → file ≡ Ok b → a ≡ b
same-bay file a b e f = let both : Ok a ≡ Ok b = sym e ∙ f in cc

-- what an audit of octets answers, where its texts are not refused, and memory did not run out for
-- it
pub record Within (Is : OnAnswers) (f : Form) (octets : AuditOctets) : Type 0 where
  pub loaded : LoadData
  pub loads : LoadsTo octets.both.bay f octets.both.program (Ok loaded)
  pub rules : Option (List Rule)
  pub parses : RulesRead loaded.bay octets.rules (Ok rules)
  pub drawn : Option Diagram
  pub draws : DiagramRead loaded.bay octets.diagram (Ok drawn)
  pub text : List ℕ
  pub status : ℕ
  pub prints : AreAnswered loaded rules drawn text status
  pub is : Is loaded rules drawn text status prints

module _ (Is : OnAnswers) (f : Form) (octets : AuditOctets) where
  within-drawn : (l : LoadData) → LoadsTo octets.both.bay f octets.both.program (Ok l)
      → (rules : Option (List Rule)) → RulesRead l.bay octets.rules (Ok rules)
      → (parsed : Result (Option Diagram) DiagramFault) → DiagramRead l.bay octets.diagram parsed
      → (log : Option (List ℕ)) (text : List ℕ) (status : ℕ)
      (prints : IsTextWith l rules parsed log text status)
      → IfDrawn Is l rules parsed log text status prints → Within Is f octets
  within-drawn l loads rules parses (Err fault) draws log text status prints h = absurd h
  within-drawn l loads rules parses (Ok d) draws log text status prints h = record {
    loaded = l;
    loads = loads;
    rules = rules;
    parses = parses;
    drawn = d;
    draws = draws;
    text = text;
    status = status;
    prints = prints.1;
    is = h;
  }

  within-read : (l : LoadData) → LoadsTo octets.both.bay f octets.both.program (Ok l)
      → (parsed : Result (Option (List Rule)) RuleFault) → RulesRead l.bay octets.rules parsed
      → (log : Option (List ℕ)) (text : List ℕ) (status : ℕ)
      (prints : ParsedRulesReport l parsed octets.diagram log text status)
      → IfRead Is l parsed octets.diagram log text status prints → Within Is f octets
  within-read l loads (Err fault) parses log text status prints h = absurd h
  within-read l loads (Ok rules) parses log text status prints h =
      within-drawn l loads rules parses prints.parsed prints.parses log text status prints.prints h

  within-load : (l : LoadData) → LoadsTo octets.both.bay f octets.both.program (Ok l)
      → (Memory : Type 0) (log : Option (List ℕ)) (text : List ℕ) (status : ℕ)
      (prints : RulesReport l octets.rules octets.diagram log text status ⊎ Memory)
      → AfterLoad Is Memory l octets.rules octets.diagram log text status prints
      → Within Is f octets
  within-load l loads Memory log text status (inr memory) h = absurd h
  within-load l loads Memory log text status (inl prints) h =
      within-read l loads prints.parsed prints.parses log text status prints.prints h

  within : (log : Option (List ℕ)) (text : List ℕ) (status : ℕ)
      (audit : AuditReport f octets log text status) → InAudit Is f octets log text status audit
      → Within Is f octets
  within log text status (inr refused) h = absurd h
  within log text status (inl load) h =
      within-load load.loaded load.loads _ log load.reports.rest status load.reports.prints h

module _ (bay : List ℕ) (f : Form) (program : List ℕ) where
  module _ (How : RuleAnswer → Type 0) (rule : Rule) where
    of-answers : (l : LoadData) → LoadsTo bay f program (Ok l) → (rules : List ℕ)
        (parsed : Option (List Rule)) → RulesRead l.bay (Some rules) (Ok parsed) → (text : List ℕ)
        (status : ℕ) (prints : AnswersIf l parsed text status)
        → AnswersRule How rule l parsed text status prints → OfOctets How bay f program rule
    of-answers l loads rules None parses text status prints h = absurd parses
    of-answers l loads rules (Some rs) parses text status prints h =
        let made = load-made bay f program l loads in
        record {
          own = l.bay;
          read = made.read;
          image = l.image;
          made = made.made;
          there = rule-there l.bay rules rs parses h.index rule h.here;
          answer = h.answer;
          how = h.how;
          right = right-at (program_of l.bay l.image) rs prints.answers h.index rule h.answer
              prints.right h.here h.answered;
        }

    of-both : (l : LoadData) → LoadsTo bay f program (Ok l) → (rules : List ℕ)
        (parsed : Option (List Rule)) → RulesRead l.bay (Some rules) (Ok parsed)
        → (d : Option Diagram) (text : List ℕ) (status : ℕ)
        (prints : AreAnswered l parsed d text status)
        → AnswersRuleIn How rule l parsed d text status prints → OfOctets How bay f program rule
    of-both l loads rules parsed parses d text status (inl both) h =
        of-answers l loads rules parsed parses both.answered (status_of both.passed) both.answers h
    of-both l loads rules parsed parses d text status (inr cut) h =
        of-answers l loads rules parsed parses text 3 cut.1 h

    -- What is answered of a rule is right.
    pub audited : (rules : List ℕ) → IsAudited How bay f program rules rule
        → OfOctets How bay f program rule
    audited rules is =
        let w = within (AnswersRuleIn How rule) f
        (octets_with bay program (Some rules) is.diagram) is.log is.text is.status is.audit
        is.prints
        in
        of-both w.loaded w.loads rules w.rules w.parses w.drawn w.text w.status w.prints w.is

  module _ (net : Network) (k : ℕ) (operation : Operation) where
    of-judgements : (l : LoadData) → LoadsTo bay f program (Ok l) → (d : Option Diagram)
        (text : List ℕ) (status : ℕ) (prints : JudgementsIf l d text status)
        → JudgesRelease net k operation l d text status prints
        → HarmlessOfOctets bay f program net k operation
    of-judgements l loads None text status prints h = absurd h
    of-judgements l loads (Some d) text status prints h =
        let made = load-made bay f program l loads in
        record {
          own = l.bay;
          read = made.read;
          image = l.image;
          made = made.made;
          there = judged-there (length l.bay.switches) prints.releases k operation
              (said-ways l.bay d prints.releases text status prints.written) h.1;
          harmless = subst (λ n. IsHarmless (program_of l.bay l.image) n k operation) h.0
              (held-harmless (program_of l.bay l.image) d.network prints.releases prints.right k
              operation h.1);
        }

    of-drawn : (l : LoadData) → LoadsTo bay f program (Ok l) → (rules : Option (List Rule))
        (d : Option Diagram) (text : List ℕ) (status : ℕ)
        (prints : AreAnswered l rules d text status)
        → JudgesReleaseIn net k operation l rules d text status prints
        → HarmlessOfOctets bay f program net k operation
    of-drawn l loads rules d text status (inl both) h =
        of-judgements l loads d both.judged both.ended both.judgements h
    of-drawn l loads rules d text status (inr cut) h = absurd h

    -- What is judged of a release is right.
    pub held : (diagram : List ℕ) → IsHeldByAudit bay f program diagram net k operation
        → HarmlessOfOctets bay f program net k operation
    held diagram is =
        let w = within (JudgesReleaseIn net k operation) f
        (octets_with bay program is.rules (Some diagram)) is.log is.text is.status is.audit
        is.prints
        in
        of-drawn w.loaded w.loads w.rules w.drawn w.text w.status w.prints w.is

-- ---- a device that octets load to

compiled-once : (text : Result PlainProgram TextFault) (bay : Bay) (i j : Image)
    → IsCompiled text bay i → IsCompiled text bay j → i ≡ j
compiled-once text bay i j a b =
    let programs : Ok a.program ≡ Ok b.program = sym a.reads ∙ b.reads in
    let program : a.program ≡ b.program = cc in
    let checks : Ok a.checked ≡ Ok b.checked =
    sym a.passes ∙ ap (λ p. checked_of bay.points p) program ∙ b.passes in
    let checked : a.checked ≡ b.checked = cc in
    let images : Ok i ≡ Ok j =
    sym a.compiles ∙ ap (λ c. compiled_of c) checked ∙ b.compiles in
    cc

-- it is of this bay and this image, and its scans halt
pub record Begins (own : Bay) (image : Image) (device : State) : Type 0 where
  pub sound : IsBay own
  pub is : device ≡ initial_device own image
  pub steady : Steady (initial_device own image)

pub text-begins : (bay program : List ℕ) (device : State)
    (loaded : IsLoaded (parsed_bay bay) (IsCompiled (parsed_program program)) device)
    → Runs loaded.made.checked device → (own : Bay) (image : Image) → parsed_bay bay ≡ Ok own
    → IsCompiled (parsed_program program) own image → Begins own image device
text-begins bay program device loaded runs own image read made =
    let same : loaded.bay ≡ own = same-bay (parsed_bay bay) loaded.bay own loaded.read read in
    let run : loaded.image ≡ image =
    compiled-once (parsed_program program) own loaded.image image
    (subst (λ (b : Bay). IsCompiled (parsed_program program) b loaded.image) same loaded.made) made
    in
    let is : device ≡ initial_device own image =
    loaded.is ∙ ap (λ (b : Bay). initial_device b loaded.image) same
    ∙ ap (initial_device own) run in
    record {
      sound = file-sound bay own read;
      is = is;
      steady = inl (loaded.made.checked, subst (Runs loaded.made.checked) is runs);
    }

image-begins : (bay program : List ℕ) (device : State)
    → LoadsDevice bay form.Image program device → (own : Bay) (image : Image)
    → parsed_bay bay ≡ Ok own → decoded_image program ≡ Ok image → AreOctets program
    → Begins own image device
image-begins bay program device is own image read made octets =
    let l = is.0 in
    let load = load-made bay form.Image program l is.1 in
    let same : l.bay ≡ own = same-bay (parsed_bay bay) l.bay own load.read read in
    let images : Ok l.image ≡ Ok image = sym load.made ∙ made in
    let run : l.image ≡ image = cc in
    let verified : IsVerified own.points image =
    subst (IsVerified own.points) run
    (subst (λ (b : Bay). IsVerified b.points l.image) same load.verified) in
    record {
      sound = file-sound bay own read;
      is = is.2 ∙ ap (λ (b : Bay). initial_device b l.image) same ∙ ap (initial_device own) run;
      steady = inr (image-sound program own image (file-sound bay own read) octets made verified);
    }

-- so it is of octets of either form
pub begins : (bay : List ℕ) (f : Form) (program : List ℕ) (device : State)
    → LoadsDevice bay f program device → IsFile f program → (own : Bay) (image : Image)
    → parsed_bay bay ≡ Ok own → IsImageOf f program own image → Begins own image device
begins bay form.Logic program device loads file own image read made =
    let loaded = device-loaded bay form.Logic program device loads in
    text-begins bay program device loaded (loaded-runs bay program device loaded) own image read
    made
begins bay form.Image program device loads file own image read made =
    image-begins bay program device loads own image read made file
