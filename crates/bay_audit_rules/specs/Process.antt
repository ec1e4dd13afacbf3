-- The values that the process last reported, and whether a condition is TRUE for them.
use Rattle.std.specs.Prelude.{ℕ, ℤ, int_lt, int_le, Bool, true, false, not, ◌&&◌, ◌||◌, List, [], ◌∷◌}
use Rattle.std.specs.Ordering.{int_eq}
use Rattle.bay_base.specs.declared.position.Dbpos.{Dbpos}
use Rattle.bay_base.specs.Positions.{same_position}
use Rattle.bay_base.specs.declared.point.MeterField.{MeterField}
use Rattle.bay_audit_rules.specs.declared.rule.ConditionItem.{ConditionItem}
use Rattle.bay_audit_rules.specs.declared.rule.ConditionItem.TheVariants as items
use Rattle.bay_audit_rules.specs.declared.rule.Relation.{Relation}
use Rattle.bay_audit_rules.specs.declared.rule.Relation.TheVariants.{Less, AtMost, Equal, Unequal, AtLeast, Greater}

-- the values that the process last reported, by the indices of the bay file: the position of each
-- switch, the value of each input, and each measured value
pub record Process : Type 0 where
  pub position : ℕ → Dbpos
  pub input : ℕ → Bool
  pub measure : ℕ → MeterField → ℤ

-- a measured value has this relation to a number
abbrev pub has_relation : Relation → ℤ → ℤ → Bool
has_relation Less x n = int_lt x n
has_relation AtMost x n = int_le x n
has_relation Equal x n = int_eq x n
has_relation Unequal x n = not (int_eq x n)
has_relation AtLeast x n = int_le n x
has_relation Greater x n = int_lt n x

-- the stack, top first, with its top negated; an empty stack stays empty
abbrev pub negate_top : List Bool → List Bool
negate_top [] = []
negate_top (a ∷ stack) = not a ∷ stack

-- the stack, top first, with its two top values joined by a function; with too few values the stack
-- becomes empty
abbrev pub join_top : (Bool → Bool → Bool) → List Bool → List Bool
join_top f [] = []
join_top f (b ∷ []) = []
join_top f (b ∷ a ∷ stack) = f a b ∷ stack

-- the stack after an item
abbrev pub after_item : Process → ConditionItem → List Bool → List Bool
after_item p items.True stack = true ∷ stack
after_item p (items.Position switch position) stack =
    same_position (p.position switch) position ∷ stack
after_item p (items.Input input) stack = p.input input ∷ stack
after_item p (items.Measure meter field relation value) stack =
    has_relation relation (p.measure meter field) value ∷ stack
after_item p items.Not stack = negate_top stack
after_item p items.And stack = join_top (λ a b. a && b) stack
after_item p items.Or stack = join_top (λ a b. a || b) stack

-- the stack after a list of items
abbrev pub after_items : Process → List ConditionItem → List Bool → List Bool
after_items p [] stack = stack
after_items p (i ∷ is) stack = after_items p is (after_item p i stack)

-- the top of the stack; FALSE if it is empty
abbrev pub top : List Bool → Bool
top [] = false
top (a ∷ stack) = a

-- the condition of these items is TRUE for these values of the process
abbrev pub holds : List ConditionItem → Process → Bool
holds is p = top (after_items p is [])
