-- How an audit of files answers a rule, and how it judges a release.
use Rattle.std.specs.Prelude.{ℕ, ◌≡◌, ◌⊎◌, true, List, slice_get, Option, None, Some, Result, Ok, Err}
use Rattle.std.specs.List.{Contains}
use mathlib.Core.Logic.{inl, inr}
use Rattle.bay_audit.specs.declared.answer.RuleAnswer.{RuleAnswer}
use Rattle.bay_audit.specs.declared.answer.RuleAnswer.TheVariants.{Holds, Since}
use Rattle.bay_base.specs.declared.switch.Operation.{Operation}
use Rattle.bay_diagram.specs.declared.network.Network.{Network}
use Rattle.bay_diagram_file.specs.declared.diagram.Diagram.{Diagram}
use Rattle.bay_diagram_file.specs.declared.fault.DiagramFault.{DiagramFault}
use Rattle.cmd_audit.specs.Auditing.{AnswersIf, AreAnswered, AuditOctets, AuditReport, RulesReport, ParsedRulesReport, IsTextWith, JudgementsIf, status_of}
use Rattle.cmd_audit.specs.Judged.{is_safe, judged_way}
use Rattle.cmd_audit.specs.declared.judged.JudgedRelease.{JudgedRelease}
use Rattle.bay_load.specs.Loads.{LoadData}
use Rattle.bay_load.specs.declared.load.Form.{Form}
use Rattle.bay_audit_rules.specs.declared.fault.RuleFault.{RuleFault}
use Rattle.bay_audit_rules.specs.declared.rule.Rule.{Rule}

-- ---- statements on an audit

-- a statement on the answers to rules and on the judgements by a diagram in a text
abbrev pub OnAnswers : Type 1
OnAnswers =
    (loaded : LoadData) (rules : Option (List Rule)) (d : Option Diagram) (text : List ℕ)
    (status : ℕ) → AreAnswered loaded rules d text status → Type 0

-- the statement, if the diagram is not refused
abbrev pub IfDrawn : OnAnswers → (loaded : LoadData) (rules : Option (List Rule))
    (parsed : Result (Option Diagram) DiagramFault) (log : Option (List ℕ)) (text : List ℕ)
    (status : ℕ) → IsTextWith loaded rules parsed log text status → Type 0
IfDrawn Is loaded rules (Ok d) log text status prints = Is loaded rules d text status prints.1
IfDrawn Is loaded rules (Err fault) log text status prints = ⊥

-- the statement, if neither the rules nor the diagram are refused
abbrev pub IfRead : OnAnswers → (loaded : LoadData)
    (parsed : Result (Option (List Rule)) RuleFault) (diagram : Option (List ℕ))
    (log : Option (List ℕ)) (text : List ℕ) (status : ℕ)
    → ParsedRulesReport loaded parsed diagram log text status → Type 0
IfRead Is loaded (Ok rules) diagram log text status prints =
    IfDrawn Is loaded rules prints.parsed log text status prints.prints
IfRead Is loaded (Err fault) diagram log text status prints = ⊥

-- the statement on the text after the line of a load, unless memory ran out for this text
abbrev pub AfterLoad : OnAnswers → (Memory : Type 0) (loaded : LoadData)
    (rules diagram : Option (List ℕ)) (log : Option (List ℕ)) (text : List ℕ) (status : ℕ)
    → RulesReport loaded rules diagram log text status ⊎ Memory → Type 0
AfterLoad Is Memory loaded rules diagram log text status (inl prints) =
    IfRead Is loaded prints.parsed diagram log text status prints.prints
AfterLoad Is Memory loaded rules diagram log text status (inr memory) = ⊥

-- the statement on the text of an audit, if the load is not refused
abbrev pub InAudit : OnAnswers → (form : Form) (octets : AuditOctets) (log : Option (List ℕ))
    (text : List ℕ) (status : ℕ) → AuditReport form octets log text status → Type 0
InAudit Is form octets log text status (inl load) =
    AfterLoad Is _ load.loaded octets.rules octets.diagram log load.reports.rest status
    load.reports.prints
InAudit Is form octets log text status (inr refused) = ⊥

-- the octets of an audit
abbrev pub octets_with : (bay program : List ℕ) (rules diagram : Option (List ℕ)) → AuditOctets
octets_with bay program rules diagram = record {
  both = record { bay = bay; program = program };
  rules = rules;
  diagram = diagram;
}

-- ---- rules

-- the answer that a rule holds, and the answer that a timer establishes it
abbrev pub Plainly : RuleAnswer → Type 0
Plainly (Holds cases) = Unit {0}
Plainly other = ⊥

-- the answer is that a timer establishes the rule
abbrev pub ByTimer : RuleAnswer → Type 0
ByTimer (Since timer cases) = Unit {0}
ByTimer other = ⊥

-- The rule is one of these, and has such an answer.
pub record IsAnswered (How : RuleAnswer → Type 0) (rules : List Rule) (answers : List RuleAnswer)
    (rule : Rule) : Type 0 where
  pub index : ℕ
  pub here : slice_get rules index ≡ Some rule
  pub answer : RuleAnswer
  pub answered : slice_get answers index ≡ Some answer
  pub how : How answer

-- the rule has such an answer in the text for rules
abbrev pub AnswersRule : (How : RuleAnswer → Type 0) → Rule → (loaded : LoadData)
    (rules : Option (List Rule)) (text : List ℕ) (status : ℕ) → AnswersIf loaded rules text status
    → Type 0
AnswersRule How rule loaded (Some rules) text status prints =
    IsAnswered How rules prints.answers rule
AnswersRule How rule loaded None text status prints = ⊥

-- the same in the text for rules and a diagram, which memory may have cut
abbrev pub AnswersRuleIn : (How : RuleAnswer → Type 0) → Rule → OnAnswers
AnswersRuleIn How rule loaded rules d text status (inl both) =
    AnswersRule How rule loaded rules both.answered (status_of both.passed) both.answers
AnswersRuleIn How rule loaded rules d text status (inr cut) =
    AnswersRule How rule loaded rules text 3 cut.1

-- An audit of these octets, with a diagram or without, gives the rule such an answer.
pub record IsAudited (How : RuleAnswer → Type 0) (bay : List ℕ) (form : Form)
    (program rules : List ℕ)
    (rule : Rule) : Type 0 where
  pub diagram : Option (List ℕ)
  pub log : Option (List ℕ)
  pub text : List ℕ
  pub status : ℕ
  pub audit : AuditReport form (octets_with bay program (Some rules) diagram) log text status
  pub prints : InAudit (AnswersRuleIn How rule) form (octets_with bay program (Some rules) diagram)
      log text status audit

-- ---- a diagram

-- The release of this switch and operation is one of these, and holds.
pub record IsHeld (releases : List JudgedRelease) (k : ℕ) (operation : Operation) : Type 0 where
  pub release : JudgedRelease
  pub among : Contains releases release
  pub way : judged_way release ≡ (k, operation)
  pub safe : is_safe release ≡ true

-- the release holds in the text for the diagram with this network
abbrev pub JudgesRelease : Network → ℕ → Operation → (loaded : LoadData) (d : Option Diagram)
    (text : List ℕ) (status : ℕ) → JudgementsIf loaded d text status → Type 0
JudgesRelease net k operation loaded (Some d) text status prints =
    (d.network ≡ net) × IsHeld prints.releases k operation
JudgesRelease net k operation loaded None text status prints = ⊥

-- the same in the text for rules and a diagram, unless memory ran out for the rules
abbrev pub JudgesReleaseIn : Network → ℕ → Operation → OnAnswers
JudgesReleaseIn net k operation loaded rules d text status (inl both) =
    JudgesRelease net k operation loaded d both.judged both.ended both.judgements
JudgesReleaseIn net k operation loaded rules d text status (inr cut) = ⊥

-- An audit of these octets, with rules or without, answers that the release of this switch and
-- operation holds in the network of the diagram.
pub record IsHeldByAudit (bay : List ℕ) (form : Form) (program diagram : List ℕ) (net : Network)
    (k : ℕ) (operation : Operation) : Type 0 where
  pub rules : Option (List ℕ)
  pub log : Option (List ℕ)
  pub text : List ℕ
  pub status : ℕ
  pub audit : AuditReport form (octets_with bay program rules (Some diagram)) log text status
  pub prints : InAudit (JudgesReleaseIn net k operation) form
      (octets_with bay program rules (Some diagram)) log text status audit
