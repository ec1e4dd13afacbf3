-- The items of a name with a value.
use Rattle.std.specs.Prelude.{ℤ, pos, Bool, true, false, not, List, [], ◌∷◌, ◌++◌, Option, None, Some, option_map, option_and_then, if◌then◌else◌}
use Rattle.std.specs.Ordering.{int_eq}
use Rattle.bay_audit_rules.specs.declared.rule.ConditionItem.{ConditionItem}
use Rattle.bay_audit_rules.specs.declared.rule.ConditionItem.TheVariants as items
use Rattle.bay_audit_rules.specs.declared.rule.Relation.{Relation}
use Rattle.bay_audit_rules.specs.declared.rule.Relation.TheVariants.{Equal}
use Rattle.bay_audit_rules.specs.declared.token.NamedObject.{NamedObject}
use Rattle.bay_audit_rules.specs.declared.token.Measurand.{Measurand}
use Rattle.bay_audit_rules.specs.declared.token.Measurand.TheVariants as measurands
use Rattle.bay_audit_rules.specs.declared.token.TestValue.{TestValue}
use Rattle.bay_audit_rules.specs.declared.token.TestValue.TheVariants.{Position, Truth, Number}

-- the items of a condition, in postfix order; none if a name has a value that it can't have
abbrev pub Items : Type 0
Items = Option (List ConditionItem)

-- the items of two parts, one after the other
infixl 10 ◌⊕◌
abbrev pub ◌⊕◌ : Items → Items → Items
None ⊕ d = None
(Some c) ⊕ None = None
(Some c) ⊕ (Some d) = Some (c ++ d)

-- one item as items
abbrev pub item : ConditionItem → Items
item i = Some (i ∷ [])

-- a negation, if the argument is true
abbrev pub negation : Bool → Items
negation false = Some []
negation true = item items.Not

-- the input has this truth value
abbrev pub input_items : Option Measurand → Bool → Items
input_items (Some (measurands.Input input)) truth = item (items.Input input) ⊕ negation (not truth)
input_items (Some (measurands.Measure meter field)) truth = None
input_items None truth = None

-- the measured value has this relation to a number
abbrev pub measure_items : Option Measurand → Relation → ℤ → Items
measure_items (Some (measurands.Measure meter field)) relation n =
    item (items.Measure meter field relation n)
measure_items (Some (measurands.Input input)) relation n = None
measure_items None relation n = None

-- the truth value that a number is
abbrev pub truth_of : ℤ → Option Bool
truth_of n = if int_eq n (pos 0) then Some false else if int_eq n (pos 1) then Some true else None

-- an input is 0 or 1, or a measured value is this number
abbrev pub number_items : Option Measurand → ℤ → Items
number_items (Some (measurands.Input input)) n =
    option_and_then (input_items (Some (measurands.Input input))) (truth_of n)
number_items (Some (measurands.Measure meter field)) n =
    measure_items (Some (measurands.Measure meter field)) Equal n
number_items None n = None

-- a name and a value: a position of the switch, a truth value of the input, or a number of the
-- input or the measured value
abbrev pub value_items : NamedObject → TestValue → Items
value_items named (Position position) =
    option_map (λ switch. items.Position switch position ∷ []) named.switch
value_items named (Truth truth) = input_items named.measurand truth
value_items named (Number n) = option_and_then (number_items named.measurand) n

-- a name, a relation and a number
abbrev pub relation_items : NamedObject → Relation → Option ℤ → Items
relation_items named relation n = option_and_then (measure_items named.measurand relation) n
