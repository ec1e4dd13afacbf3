-- Whether each rule of a text holds for a loaded program, and what is printed and logged then.
use Rattle.std.specs.Prelude.{◌≡◌, ◌⊎◌, ℕ, true, false, List, ◌++◌, codes, length, zip, flat_map, Option, None, Result, Ok, Err, if◌then◌else◌, []}
use Rattle.std.specs.Fmt.{decimal}
use Rattle.std.specs.List.{list_all}
use Rattle.bay_audit.specs.Rules.{AreRightAnswers, program_of}
use Rattle.bay_audit.specs.declared.answer.RuleAnswer.{RuleAnswer}
use Rattle.bay_config.specs.declared.bay.Bay.{Bay}
use Rattle.bay_load.specs.Loads.{LoadData}
use Rattle.bay_report.specs.LogLines.{IsLoggedOutput}
use Rattle.bay_audit_rules.specs.Meaning.{TextRead}
use Rattle.bay_audit_rules.specs.declared.fault.RuleFault.{RuleFault}
use Rattle.bay_audit_rules.specs.declared.rule.Rule.{Rule}
use Rattle.cmd_audit.specs.Names.{ProgramNames, program_names}
use Rattle.cmd_audit.specs.Text.{answer_text, is_passed, refusal_text, refused_log}
use Rattle.cmd_audit.specs.declared.judging.RulesVerdict.{RulesVerdict}
use Rattle.cmd_audit.specs.declared.judging.RulesVerdict.TheVariants.{Hold, Unproved, Refused, OutOfMemory}

-- the line of an audit for a rule that does not hold; none for a rule that holds
abbrev pub unproved_line : Bay → ProgramNames → Rule × RuleAnswer → List ℕ
unproved_line bay names pair = if is_passed pair.1 then [] else answer_text bay names pair

-- the lines of an audit for the rules that do not hold
abbrev pub unproved_text : Bay → ProgramNames → List (Rule × RuleAnswer) → List ℕ
unproved_text bay names pairs = flat_map (unproved_line bay names) pairs

-- the verdict on rules with these answers: their number, if each of them holds; the lines of those
-- that do not hold, if one does not
abbrev pub IsJudged : Bay → ProgramNames → List Rule → List RuleAnswer → RulesVerdict → Type 0
IsJudged bay names rules answers (Hold count) =
    (list_all is_passed answers ≡ true) × (count ≡ length rules)
IsJudged bay names rules answers (Unproved text) =
    (list_all is_passed answers ≡ false)
    × (text.items ≡ unproved_text bay names (zip rules answers))
IsJudged bay names rules answers (Refused fault) = ⊥
IsJudged bay names rules answers OutOfMemory = ⊥

-- There is an answer for each rule, each answer is right, and the verdict is that on these answers.
pub record Judges (loaded : LoadData) (rules : List Rule) (verdict : RulesVerdict)
    : Type 0 where
  pub answers : List RuleAnswer
  pub right : AreRightAnswers (program_of loaded.bay loaded.image) rules answers
  pub judged : IsJudged loaded.bay (program_names loaded) rules answers verdict

-- the verdict on the rules of a text, or on a text that has a fault
abbrev pub JudgesRead : LoadData → Result (List Rule) RuleFault → RulesVerdict → Type 0
JudgesRead loaded (Ok rules) verdict = Judges loaded rules verdict
JudgesRead loaded (Err fault) verdict = verdict ≡ Refused fault

-- the verdict on a text of rules
pub record JudgesText (loaded : LoadData) (text : List ℕ) (verdict : RulesVerdict) : Type 0 where
  pub parsed : Result (List Rule) RuleFault
  pub parses : TextRead loaded.bay text parsed
  pub judges : JudgesRead loaded parsed verdict

-- the verdict on a text of rules, unless memory ran out
abbrev pub IsVerdictOn : LoadData → List ℕ → RulesVerdict → Type 0
IsVerdictOn loaded text verdict = (verdict ≡ OutOfMemory) ⊎ JudgesText loaded text verdict

-- what is printed of a verdict, with which status, and what is logged
abbrev pub VerdictReport : RulesVerdict → Option (List ℕ) → List ℕ → ℕ → Type 0
VerdictReport (Hold count) =
    IsLoggedOutput None (codes "rules " ++ (decimal count ++ codes "\n")) 0
VerdictReport (Unproved text) = IsLoggedOutput None text.items 4
VerdictReport (Refused fault) = IsLoggedOutput (refused_log fault) (refusal_text fault) 1
VerdictReport OutOfMemory = IsLoggedOutput None (codes "fault memory\n") 3
