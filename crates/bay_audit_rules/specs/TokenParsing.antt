-- How the code reads the tokens of a line from the left. The grammar defines their meaning; this
-- defines how the code finds it.
use Rattle.std.specs.Prelude.{Bool, true, false, List, [], ◌∷◌, drop, Option, None, Some, option_map, if◌then◌else◌}
use Rattle.bay_base.specs.Options.{◌>>=◌}
use Rattle.bay_audit_rules.specs.declared.rule.ConditionItem.TheVariants as items
use Rattle.bay_audit_rules.specs.declared.rule.RuleKind.{RuleKind}
use Rattle.bay_audit_rules.specs.declared.rule.RuleKind.TheVariants.{Never, Always}
use Rattle.bay_audit_rules.specs.declared.statement.HeldCondition.{HeldCondition}
use Rattle.bay_audit_rules.specs.declared.statement.RuleStatement.{RuleStatement}
use Rattle.bay_audit_rules.specs.declared.statement.RuleStatement.TheVariants.{Blank, Looks, Rule}
use Rattle.bay_audit_rules.specs.declared.statement.Directions.{Directions}
use Rattle.bay_audit_rules.specs.declared.statement.Directions.TheVariants.{Opening, Closing, OpeningAndClosing, ClosingAndOpening}
use Rattle.bay_audit_rules.specs.declared.token.NamedObject.{NamedObject}
use Rattle.bay_audit_rules.specs.declared.token.RuleToken.{RuleToken}
use Rattle.bay_audit_rules.specs.declared.token.RuleToken.TheVariants as token
use Rattle.bay_audit_rules.specs.Facts.{Items, item}
use Rattle.bay_audit_rules.specs.Running.{fact_at, condition_at}

-- the directions after an `open`, and the rest
abbrev pub directions_after_open : List RuleToken → Directions × List RuleToken
directions_after_open (token.Bar ∷ (token.Close ∷ ts)) = (OpeningAndClosing, ts)
directions_after_open ts = (Opening, ts)

-- the directions after a `close`, and the rest
abbrev pub directions_after_close : List RuleToken → Directions × List RuleToken
directions_after_close (token.Bar ∷ (token.Open ∷ ts)) = (ClosingAndOpening, ts)
directions_after_close ts = (Closing, ts)

-- the directions at the start of the tokens, and the rest
abbrev pub directions_at : List RuleToken → Option (Directions × List RuleToken)
directions_at (token.Open ∷ ts) = Some (directions_after_open ts)
directions_at (token.Close ∷ ts) = Some (directions_after_close ts)
directions_at ts = None

-- `for` and a time after a condition, and the rest
abbrev pub time_after_condition : Items → List RuleToken → Option (HeldCondition × List RuleToken)
time_after_condition c (token.For ∷ (token.Time time ∷ ts)) =
    Some (record { condition = c; time = time }, ts)
time_after_condition c ts = None

-- a condition at the start of the tokens, with `for` and a time after it, and the rest
abbrev pub held_condition_at : List RuleToken → Option (HeldCondition × List RuleToken)
held_condition_at ts = condition_at ts >>= λ found. time_after_condition found.0 found.1

-- two kinds are equal
abbrev pub same_kind : RuleKind → RuleKind → Bool
same_kind Never Never = true
same_kind Always Always = true
same_kind a b = false

-- the time at the start of the tokens, if there is one, and the rest
abbrev pub timed_at : RuleKind → List RuleToken → Option (Option HeldCondition × List RuleToken)
timed_at kind (token.Since which ∷ ts) =
    if same_kind kind which
    then option_map (λ one. (Some one.0, one.1)) (held_condition_at ts)
    else None
timed_at kind ts = Some (None, ts)

-- the items, if no tokens follow
abbrev pub only_items : Items → List RuleToken → Option Items
only_items c [] = Some c
only_items c (t ∷ ts) = None

-- the condition on the states that a rule covers
abbrev pub when_at : List RuleToken → Option Items
when_at [] = Some (item items.True)
when_at (token.When ∷ ts) = condition_at ts >>= λ found. only_items found.0 found.1
when_at ts = None

-- the values of a `look` line
abbrev pub looks_at : NamedObject → List RuleToken → Option RuleStatement
looks_at named ts =
    option_map Looks (fact_at named ts >>= λ taken. only_items taken.0 (drop taken.1 ts))

-- a rule
abbrev pub rule_at : RuleKind → NamedObject → List RuleToken → Option RuleStatement
rule_at kind named ts =
    directions_at ts >>= λ directions. timed_at kind directions.1 >>= λ timed. option_map
    (λ when. Rule (record {
      kind = kind;
      named = named;
      directions = directions.0;
      timed = timed.0;
      when = when;
    })) (when_at timed.1)

-- the statement that the tokens after `look` spell
abbrev pub look_at : List RuleToken → Option RuleStatement
look_at (token.Name named ∷ ts) = looks_at named ts
look_at ts = None

-- the statement that the tokens after `never` or `always` spell
abbrev pub kind_at : RuleKind → List RuleToken → Option RuleStatement
kind_at kind (token.Name named ∷ ts) = rule_at kind named ts
kind_at kind ts = None

-- the statement that the tokens of a line spell
abbrev pub statement_at : List RuleToken → Option RuleStatement
statement_at [] = Some Blank
statement_at (token.Look ∷ ts) = look_at ts
statement_at (token.Kind kind ∷ ts) = kind_at kind ts
statement_at ts = None
