-- The rules that a text spells for a bay, or its first fault: the one with the least line, and
-- within a line with the least number.
use Rattle.std.specs.Prelude.{◌≡◌, ℕ, ◌+◌, ◌<◌, ◌≤◌, ◌==◌, ◌-◌, nat_le, Bool, true, false, ◌&&◌, ◌||◌, List, [], ◌∷◌, ◌++◌, map, length, Option, None, Some, is_none, option_map, Result, Ok, Err, if◌then◌else◌}
use Rattle.std.specs.List.{list_any, before_first, slice_split}
use Rattle.bay_config.specs.declared.bay.Bay.{Bay}
use Rattle.bay_base.specs.Options.{◌>>=◌}
use Rattle.bay_audit_rules.specs.declared.fault.RuleFault.{RuleFault}
use Rattle.bay_audit_rules.specs.declared.fault.RuleFault.TheVariants.{BadWord, BadLine, UnknownName, BadValue, TooMany, NoRule}
use Rattle.bay_audit_rules.specs.declared.pieces.Cut.TheVariants.{Line}
use Rattle.bay_audit_rules.specs.declared.rule.Rule.{Rule}
use Rattle.bay_audit_rules.specs.declared.rule.Timing.{Timing}
use Rattle.bay_audit_rules.specs.declared.statement.RuleLine.{RuleLine}
use Rattle.bay_audit_rules.specs.declared.statement.HeldCondition.{HeldCondition}
use Rattle.bay_audit_rules.specs.declared.statement.RuleStatement.{RuleStatement}
use Rattle.bay_audit_rules.specs.declared.statement.RuleStatement.TheVariants as statement
use Rattle.bay_audit_rules.specs.declared.statement.Directions.{Directions}
use Rattle.bay_audit_rules.specs.declared.statement.Directions.TheVariants.{Opening, Closing, OpeningAndClosing, ClosingAndOpening}
use Rattle.bay_audit_rules.specs.declared.token.Connector.TheVariants.{End}
use Rattle.bay_audit_rules.specs.declared.token.NamedObject.{NamedObject}
use Rattle.bay_audit_rules.specs.declared.token.RuleToken.{RuleToken}
use Rattle.bay_audit_rules.specs.declared.token.RuleToken.TheVariants as token
use Rattle.bay_audit_rules.specs.Grammar.{Spells}
use Rattle.bay_audit_rules.specs.Pieces.{pieces}
use Rattle.bay_audit_rules.specs.Words.{token_of}
use Rattle.bay_base.specs.declared.switch.Operation.{Operation}
use Rattle.bay_base.specs.declared.switch.Operation.TheVariants as operations

-- a space, a tab or a carriage return
abbrev pub is_blank : ℕ → Bool
is_blank b = b == 32 || (b == 9 || b == 13)

-- whether a piece begins with a blank
abbrev pub is_blank_piece : List ℕ → Bool
is_blank_piece [] = false
is_blank_piece (b ∷ bs) = is_blank b

-- the tokens of pieces, apart from blanks; none if a piece is not a token
abbrev pub tokens_of : Bay → List (List ℕ) → Option (List RuleToken)
tokens_of bay [] = Some []
tokens_of bay (p ∷ ps) =
    if is_blank_piece p then tokens_of bay ps
    else token_of bay p >>= λ t. option_map (λ ts. t ∷ ts) (tokens_of bay ps)

-- `#`
abbrev pub is_comment : ℕ → Bool
is_comment b = b == 35

-- the tokens of a line, without its comment
unfoldable pub line_tokens : Bay → List ℕ → Option (List RuleToken)
line_tokens bay line = tokens_of bay (pieces Line (before_first is_comment line))

-- a name of nothing in the bay
abbrev pub is_nothing : NamedObject → Bool
is_nothing named = is_none named.switch && is_none named.measurand

-- whether a token is a name of nothing in the bay
abbrev pub is_unknown : RuleToken → Bool
is_unknown (token.Name named) = is_nothing named
is_unknown other = false

-- parentheses are nested more than 64 deep, if `depth` of them are open already
abbrev pub is_deep : ℕ → List RuleToken → Bool
is_deep depth [] = false
is_deep depth (token.Begin ∷ ts) = nat_le 64 depth || is_deep (depth + 1) ts
is_deep depth (token.Connector End ∷ ts) = is_deep (depth - 1) ts
is_deep depth (other ∷ ts) = is_deep depth ts

-- the operations of the directions
abbrev pub operations_of : Directions → List Operation
operations_of Opening = operations.Open ∷ []
operations_of Closing = operations.Close ∷ []
operations_of OpeningAndClosing = operations.Open ∷ operations.Close ∷ []
operations_of ClosingAndOpening = operations.Close ∷ operations.Open ∷ []

-- the time of a rule; none if a name has a value that it can't have, or if no timer can have the
-- time
abbrev pub timing_of : Option HeldCondition → Option (Option Timing)
timing_of None = Some None
timing_of (Some since) = since.condition >>= λ c. option_map
    (λ t. Some (record { condition = c; time = t })) since.time

-- the rule of a line, for opening; none if the name is no switch, if another name has a value that
-- it can't have, or if no timer can have the time
abbrev pub template_of : ℕ → RuleLine → Option Rule
template_of line rule_line =
    rule_line.named.switch >>= λ switch. timing_of rule_line.timed >>= λ timed. option_map
    (λ when. record {
      line = line;
      kind = rule_line.kind;
      switch = switch;
      operation = operations.Open;
      when = when;
      timed = timed;
    }) rule_line.when

-- the rule for another operation
abbrev pub rule_of : Rule → Operation → Rule
rule_of rule operation =
    record {
      line = rule.line;
      kind = rule.kind;
      switch = rule.switch;
      operation = operation;
      when = rule.when;
      timed = rule.timed;
    }

-- the rules of a statement, one for each operation
abbrev pub rules_of : ℕ → RuleStatement → Option (List Rule)
rules_of line statement.Blank = Some []
rules_of line (statement.Looks c) = option_map (λ is. []) c
rules_of line (statement.Rule rule_line) =
    option_map (λ rule. map (rule_of rule) (operations_of rule_line.directions))
    (template_of line rule_line)

-- the rules that the tokens of a line spell, or the least fault
pub data TokensRead (line : ℕ) (ts : List RuleToken) : Result (List Rule) RuleFault → Type 0 where
  bad_line : ((s : RuleStatement) → ¬ (Spells ts s)) → TokensRead line ts (Err (BadLine line))
  unknown_name : {s : RuleStatement} → Spells ts s → list_any is_unknown ts ≡ true
      → TokensRead line ts (Err (UnknownName line))
  bad_value : {s : RuleStatement} → Spells ts s → list_any is_unknown ts ≡ false
      → rules_of line s ≡ None → TokensRead line ts (Err (BadValue line))
  too_deep : {s : RuleStatement} {rules : List Rule} → Spells ts s → list_any is_unknown ts ≡ false
      → rules_of line s ≡ Some rules → is_deep 0 ts ≡ true
      → TokensRead line ts (Err (TooMany line))
  rules : {s : RuleStatement} {rules : List Rule} → Spells ts s → list_any is_unknown ts ≡ false
      → rules_of line s ≡ Some rules → is_deep 0 ts ≡ false → TokensRead line ts (Ok rules)

-- the rules that a line spells, or its least fault
pub data LineRead (bay : Bay) (line : ℕ) (text : List ℕ) : Result (List Rule) RuleFault → Type 0
  where
    bad_word : line_tokens bay text ≡ None → LineRead bay line text (Err (BadWord line))
    tokens : {ts : List RuleToken} {r : Result (List Rule) RuleFault}
        → line_tokens bay text ≡ Some ts
        → TokensRead line ts r → LineRead bay line text r

-- these rules and the later ones, or the fault
abbrev pub prepend_rules : List Rule → Result (List Rule) RuleFault → Result (List Rule) RuleFault
prepend_rules rs (Ok more) = Ok (rs ++ more)
prepend_rules rs (Err fault) = Err fault

-- the rules of lines, the first of which has this number, after `count` rules: at most 1,000 rules
-- in all, or the fault of the first line that has one
pub data LinesRead (bay : Bay) : ℕ → ℕ → List (List ℕ) → Result (List Rule) RuleFault → Type 0 where
  done : {line count : ℕ} → LinesRead bay line count [] (Ok [])
  refused : {line count : ℕ} {text : List ℕ} {rest : List (List ℕ)} {fault : RuleFault}
      → LineRead bay line text (Err fault) → LinesRead bay line count (text ∷ rest) (Err fault)
  too_many : {line count : ℕ} {text : List ℕ} {rest : List (List ℕ)} {rules : List Rule}
      → LineRead bay line text (Ok rules) → 1000 < count + length rules
      → LinesRead bay line count (text ∷ rest) (Err (TooMany line))
  next : {line count : ℕ} {text : List ℕ} {rest : List (List ℕ)} {rules : List Rule}
      {r : Result (List Rule) RuleFault} → LineRead bay line text (Ok rules)
      → count + length rules ≤ 1000 → LinesRead bay (line + 1) (count + length rules) rest r
      → LinesRead bay line count (text ∷ rest) (prepend_rules rules r)

-- a line feed
abbrev pub is_line_end : ℕ → Bool
is_line_end b = b == 10

-- the rules of all lines of a text, or a fault
abbrev pub AllRead : Bay → List ℕ → Result (List Rule) RuleFault → Type 0
AllRead bay text = LinesRead bay 1 0 (slice_split is_line_end text)

-- a text without a rule is a fault
abbrev pub some_rule : Result (List Rule) RuleFault → Result (List Rule) RuleFault
some_rule (Ok []) = Err NoRule
some_rule other = other

-- the reading of a text: its rules, at least one, or its first fault
pub record TextRead (bay : Bay) (text : List ℕ) (r : Result (List Rule) RuleFault) : Type 0 where
  pub all : Result (List Rule) RuleFault
  pub read : AllRead bay text all
  pub is : r ≡ some_rule all
