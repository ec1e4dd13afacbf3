-- The words and signs of rules, and the tokens of pieces.
use Rattle.std.specs.Prelude.{ℕ, ℤ, Bool, true, false, ◌&&◌, List, [], ◌∷◌, codes, find, position, Option, None, Some, option_map, option_and_then, if◌then◌else◌}
use Rattle.std.specs.List.{list_all}
use Rattle.bay_base.specs.Names.{same_name}
use Rattle.bay_base.specs.declared.position.Dbpos.TheVariants as at
use Rattle.bay_nodes.specs.declared.switch.Switch.{Switch}
use Rattle.bay_config.specs.declared.bay.Bay.{Bay}
use Rattle.bay_base.specs.declared.point.Source.{Source}
use Rattle.bay_base.specs.declared.point.Source.TheVariants as sources
use Rattle.bay_config.specs.Key.{begins_with_letter, is_name_character}
use Rattle.bay_audit_rules.specs.declared.rule.Relation.TheVariants.{Less, AtMost, Equal, Unequal, AtLeast, Greater}
use Rattle.bay_audit_rules.specs.declared.rule.RuleKind.TheVariants.{Never, Always}
use Rattle.bay_audit_rules.specs.declared.token.Connector.TheVariants.{And, Or, End}
use Rattle.bay_audit_rules.specs.declared.token.NamedObject.{NamedObject}
use Rattle.bay_audit_rules.specs.declared.token.Measurand.{Measurand}
use Rattle.bay_audit_rules.specs.declared.token.Measurand.TheVariants as measurands
use Rattle.bay_audit_rules.specs.declared.token.RuleToken.{RuleToken}
use Rattle.bay_audit_rules.specs.declared.token.RuleToken.TheVariants as token
use Rattle.bay_audit_rules.specs.declared.token.TestValue.TheVariants.{Position, Truth, Number}
use Rattle.bay_audit_rules.specs.Numbers.{number_in, time_in}

-- each word and sign in upper case, with its token
unfoldable pub words : List (List ℕ × RuleToken)
words =
    (codes "NEVER", token.Kind Never) ∷
    (codes "ALWAYS", token.Kind Always) ∷
    (codes "LOOK", token.Look) ∷
    (codes "OPEN", token.Open) ∷
    (codes "CLOSE", token.Close) ∷
    (codes "UNTIL", token.Since Never) ∷
    (codes "AFTER", token.Since Always) ∷
    (codes "FOR", token.For) ∷
    (codes "WHEN", token.When) ∷
    (codes "AND", token.Connector And) ∷
    (codes "OR", token.Connector Or) ∷
    (codes "NOT", token.Not) ∷
    (codes "IS", token.Is) ∷
    (codes "INTERMEDIATE", token.TestValue (Position at.Intermediate)) ∷
    (codes "OFF", token.TestValue (Position at.Off)) ∷
    (codes "ON", token.TestValue (Position at.On)) ∷
    (codes "CLOSED", token.TestValue (Position at.On)) ∷
    (codes "BAD", token.TestValue (Position at.Bad)) ∷
    (codes "FALSE", token.TestValue (Truth false)) ∷
    (codes "TRUE", token.TestValue (Truth true)) ∷
    (codes "|", token.Bar) ∷
    (codes "(", token.Begin) ∷
    (codes ")", token.Connector End) ∷
    (codes "<", token.Relation Less) ∷
    (codes "<=", token.Relation AtMost) ∷
    (codes "=", token.Relation Equal) ∷
    (codes "<>", token.Relation Unequal) ∷
    (codes ">=", token.Relation AtLeast) ∷
    (codes ">", token.Relation Greater) ∷ []

-- the token of a reserved word or a sign, in letters of either case
unfoldable pub reserved_token : List ℕ → Option RuleToken
reserved_token piece = option_map (λ entry. entry.1) (find (λ entry. same_name piece entry.0) words)

-- the input or the measured value of a source; a name denotes no point of a switch
abbrev pub measurand_of : Source → Option Measurand
measurand_of (sources.Switch switch point) = None
measurand_of (sources.Input input) = Some (measurands.Input input)
measurand_of (sources.Meter meter field) = Some (measurands.Measure meter field)

-- the objects that a name denotes in a bay: the switch with this id, and the input or the measured
-- value of the point with this name
abbrev pub named_in : Bay → List ℕ → NamedObject
named_in bay name =
    record {
      switch = position (λ (s : Switch). same_name name s.id) bay.switches;
      measurand = option_and_then (λ p. measurand_of p.source)
          (find (λ p. same_name name p.name) bay.points);
    }

-- a letter, then letters, digits and `_`
abbrev pub is_name : List ℕ → Bool
is_name piece = begins_with_letter piece && list_all is_name_character piece

-- a name, with the objects that it denotes
abbrev pub name_of : Bay → List ℕ → Option RuleToken
name_of bay piece =
    if is_name piece then Some (token.Name (named_in bay piece)) else None

-- the token of a time, if the piece is one; else that of a name
abbrev pub time_or_name : Bay → List ℕ → Option (Option ℕ) → Option RuleToken
time_or_name bay piece (Some time) = Some (token.Time time)
time_or_name bay piece None = name_of bay piece

-- the token of a number, if the piece is one; else that of a time or a name
abbrev pub number_or_time : Bay → List ℕ → Option (Option ℤ) → Option RuleToken
number_or_time bay piece (Some n) = Some (token.TestValue (Number n))
number_or_time bay piece None = time_or_name bay piece (time_in piece)

-- the token of a word or a sign, if the piece is one; else that of a number, a time or a name
abbrev pub word_or_number : Bay → List ℕ → Option RuleToken → Option RuleToken
word_or_number bay piece (Some t) = Some t
word_or_number bay piece None = number_or_time bay piece (number_in piece)

-- the token that a piece spells: a word or a sign, a number, a time or a name
abbrev pub token_of : Bay → List ℕ → Option RuleToken
token_of bay piece = word_or_number bay piece (reserved_token piece)
