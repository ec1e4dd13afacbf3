-- The grammar of a rule, over the tokens of its line. Parts of a condition have their items in
-- postfix order.
use Rattle.std.specs.Prelude.{◌≡◌, ℕ, ℤ, Bool, true, false, List, [], ◌∷◌, ◌++◌, Option, None, Some}
use Rattle.bay_base.specs.declared.position.Dbpos.TheVariants.{Off}
use Rattle.bay_audit_rules.specs.declared.rule.ConditionItem.TheVariants as items
use Rattle.bay_audit_rules.specs.declared.rule.Relation.{Relation}
use Rattle.bay_audit_rules.specs.declared.rule.RuleKind.{RuleKind}
use Rattle.bay_audit_rules.specs.declared.statement.HeldCondition.{HeldCondition}
use Rattle.bay_audit_rules.specs.declared.statement.RuleStatement.{RuleStatement}
use Rattle.bay_audit_rules.specs.declared.statement.RuleStatement.TheVariants.{Blank, Looks, Rule}
use Rattle.bay_audit_rules.specs.declared.statement.Directions.{Directions}
use Rattle.bay_audit_rules.specs.declared.statement.Directions.TheVariants.{Opening, Closing, OpeningAndClosing, ClosingAndOpening}
use Rattle.bay_audit_rules.specs.declared.token.Connector.TheVariants.{And, Or, End}
use Rattle.bay_audit_rules.specs.declared.token.NamedObject.{NamedObject}
use Rattle.bay_audit_rules.specs.declared.token.RuleToken.{RuleToken}
use Rattle.bay_audit_rules.specs.declared.token.RuleToken.TheVariants as token
use Rattle.bay_audit_rules.specs.declared.token.TestValue.{TestValue}
use Rattle.bay_audit_rules.specs.declared.token.TestValue.TheVariants.{Position, Truth, Number}
use Rattle.bay_audit_rules.specs.Facts.{Items, ◌⊕◌, item, negation, value_items, relation_items}

-- the value that a token denotes after a name; `open` is a position there
abbrev pub value_of : RuleToken → Option TestValue
value_of (token.TestValue value) = Some value
value_of token.Open = Some (Position Off)
value_of other = None

-- further values of the named object, joined by `or`
pub data AreValues : NamedObject → List RuleToken → Items → Type 0 where
  none : {named : NamedObject} → AreValues named [] (Some [])
  bar : {named : NamedObject} {t : RuleToken} {value : TestValue} {ts : List RuleToken} {c : Items}
      → value_of t ≡ Some value → AreValues named ts c
      → AreValues named (token.Bar ∷ t ∷ ts) (value_items named value ⊕ item items.Or ⊕ c)

-- the tokens between a name and its values, and whether they negate
pub data IsComparison : List RuleToken → Bool → Type 0 where
  plain : IsComparison [] false
  is : IsComparison (token.Is ∷ []) false
  not : IsComparison (token.Not ∷ []) true
  is_not : IsComparison (token.Is ∷ token.Not ∷ []) true

-- a fact: an input alone, which is TRUE; the named object and its values; or a measured value, a
-- relation and a number
pub data IsFact : NamedObject → List RuleToken → Items → Type 0 where
  alone : {named : NamedObject} → IsFact named [] (value_items named (Truth true))
  valued : {named : NamedObject} {between : List RuleToken} {negated : Bool} (t : RuleToken)
      {value : TestValue}
      {ts : List RuleToken} {c : Items} → IsComparison between negated → value_of t ≡ Some value
      → AreValues named ts c
      → IsFact named (between ++ (t ∷ ts)) (value_items named value ⊕ c ⊕ negation negated)
  related : {named : NamedObject} {relation : Relation} {n : Option ℤ}
      → IsFact named (token.Relation relation ∷ token.TestValue (Number n) ∷ [])
      (relation_items named relation n)

-- the binding levels of a condition: an operand, operands joined by `and`, or these joined by `or`
pub data Level : Type 0 where
  operand : Level
  conjunction : Level
  condition : Level

-- the tokens are a part of a condition at this level, with these items
pub data Reads : Level → List RuleToken → Items → Type 0 where
  fact : {named : NamedObject} {ts : List RuleToken} {c : Items} → IsFact named ts c
      → Reads operand (token.Name named ∷ ts) c
  not : {ts : List RuleToken} {c : Items} → Reads operand ts c
      → Reads operand (token.Not ∷ ts) (c ⊕ item items.Not)
  group : {ts : List RuleToken} {c : Items} → Reads condition ts c
      → Reads operand (token.Begin ∷ (ts ++ (token.Connector End ∷ []))) c
  one : {ts : List RuleToken} {c : Items} → Reads operand ts c → Reads conjunction ts c
  and : {ts us : List RuleToken} {c d : Items} → Reads conjunction ts c → Reads operand us d
      → Reads conjunction (ts ++ (token.Connector And ∷ us)) (c ⊕ d ⊕ item items.And)
  all : {ts : List RuleToken} {c : Items} → Reads conjunction ts c → Reads condition ts c
  or : {ts us : List RuleToken} {c d : Items} → Reads condition ts c → Reads conjunction us d
      → Reads condition (ts ++ (token.Connector Or ∷ us)) (c ⊕ d ⊕ item items.Or)

-- the directions of a switch
abbrev pub direction_tokens : Directions → List RuleToken
direction_tokens Opening = token.Open ∷ []
direction_tokens Closing = token.Close ∷ []
direction_tokens OpeningAndClosing = token.Open ∷ token.Bar ∷ token.Close ∷ []
direction_tokens ClosingAndOpening = token.Close ∷ token.Bar ∷ token.Open ∷ []

-- `until C for T` if the rule forbids, `after C for T` if it requires; or no time
pub data IsTimed : RuleKind → List RuleToken → Option HeldCondition → Type 0 where
  untimed : {kind : RuleKind} → IsTimed kind [] None
  timed : {kind : RuleKind} {ts : List RuleToken} {c : Items} {t : Option ℕ} → Reads condition ts c
      → IsTimed kind (token.Since kind ∷ (ts ++ (token.For ∷ token.Time t ∷ [])))
      (Some (record { condition = c; time = t }))

-- `when C`; without it the condition is always TRUE
pub data IsWhen : List RuleToken → Items → Type 0 where
  always : IsWhen [] (item items.True)
  when : {ts : List RuleToken} {c : Items} → Reads condition ts c → IsWhen (token.When ∷ ts) c

-- the statement that the tokens of a line spell: nothing, the values of `look`, or a rule
pub data Spells : List RuleToken → RuleStatement → Type 0 where
  blank : Spells [] Blank
  look : {named : NamedObject} {ts : List RuleToken} {c : Items} → IsFact named ts c
      → Spells (token.Look ∷ token.Name named ∷ ts) (Looks c)
  rule : {kind : RuleKind} {named : NamedObject} (directions : Directions) {us vs : List RuleToken}
      {timed : Option HeldCondition} {c : Items} → IsTimed kind us timed → IsWhen vs c
      → Spells (token.Kind kind ∷ token.Name named ∷ (direction_tokens directions ++ (us ++ vs)))
      (Rule (record {
        kind = kind;
        named = named;
        directions = directions;
        timed = timed;
        when = c;
      }))
