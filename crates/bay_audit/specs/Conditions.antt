-- The truth values that a condition can have in a case.
use Rattle.std.specs.Prelude.{ℤ, int_lt, int_le, Bool, true, false, ◌&&◌, ◌||◌, List, [], ◌∷◌}
use Rattle.bay_base.specs.declared.position.Dbpos.{Dbpos}
use Rattle.bay_base.specs.declared.position.Dbpos.TheVariants.{Intermediate, Off, On, Bad}
use Rattle.bay_audit_rules.specs.declared.rule.ConditionItem.{ConditionItem}
use Rattle.bay_audit_rules.specs.declared.rule.ConditionItem.TheVariants as items
use Rattle.bay_audit_rules.specs.declared.rule.Relation.{Relation}
use Rattle.bay_audit_rules.specs.declared.rule.Relation.TheVariants.{Less, AtMost, Equal, Unequal, AtLeast, Greater}
use Rattle.bay_audit.specs.Cases.{high_of, input_may, low_of, may_be}
use Rattle.bay_audit.specs.declared.case.TestAnswer.{TestAnswer}
use Rattle.bay_audit.specs.declared.truth_set.TruthSet.{TruthSet}

-- the truth set with TRUE and with FALSE, if the arguments are true
abbrev pub truth_set : Bool → Bool → TruthSet
truth_set t f = record { yes = t; no = f }

-- the truth value is in the set
abbrev pub includes : TruthSet → Bool → Bool
includes o true = o.yes
includes o false = o.no

-- ---- facts

-- the truth set of a position, for a switch that may have these positions
abbrev pub position_truths : Dbpos → Bool → Bool → Bool → Bool → TruthSet
position_truths Intermediate i o n b = truth_set i (o || n || b)
position_truths Off i o n b = truth_set o (i || n || b)
position_truths On i o n b = truth_set n (i || o || b)
position_truths Bad i o n b = truth_set b (i || o || n)

-- the truth set of a relation to a number n, for a measured value from low to high
abbrev pub relation_truths : Relation → ℤ → ℤ → ℤ → TruthSet
relation_truths Less low high n = truth_set (int_lt low n) (int_le n high)
relation_truths AtMost low high n = truth_set (int_le low n) (int_lt n high)
relation_truths Equal low high n =
    truth_set (int_le low n && int_le n high) (int_lt low n || int_lt n high)
relation_truths Unequal low high n =
    truth_set (int_lt low n || int_lt n high) (int_le low n && int_le n high)
relation_truths AtLeast low high n = truth_set (int_le n high) (int_lt low n)
relation_truths Greater low high n = truth_set (int_lt n high) (int_le low n)

-- ---- conditions

-- the truth set of a negation
abbrev pub negate_truths : TruthSet → TruthSet
negate_truths a = truth_set a.no a.yes

-- the truth set of a conjunction
abbrev pub and_truths : TruthSet → TruthSet → TruthSet
and_truths a b = truth_set (a.yes && b.yes) (a.no || b.no)

-- the truth set of a disjunction
abbrev pub or_truths : TruthSet → TruthSet → TruthSet
or_truths a b = truth_set (a.yes || b.yes) (a.no && b.no)

-- the stack, top first, with its top negated
abbrev pub negate_top_truths : List TruthSet → List TruthSet
negate_top_truths [] = []
negate_top_truths (a ∷ stack) = negate_truths a ∷ stack

-- the stack with its two top sets joined; empty if it has fewer
abbrev pub join_top_truths : (TruthSet → TruthSet → TruthSet) → List TruthSet → List TruthSet
join_top_truths f [] = []
join_top_truths f (b ∷ []) = []
join_top_truths f (b ∷ a ∷ stack) = f a b ∷ stack

-- the stack after an item
abbrev pub truths_after_item : List TestAnswer → ConditionItem → List TruthSet → List TruthSet
truths_after_item case items.True stack = truth_set true false ∷ stack
truths_after_item case (items.Position k position) stack =
    position_truths position (may_be case k Intermediate) (may_be case k Off) (may_be case k On)
    (may_be case k Bad) ∷ stack
truths_after_item case (items.Input k) stack =
    truth_set (input_may case k true) (input_may case k false) ∷ stack
truths_after_item case (items.Measure k field relation value) stack =
    relation_truths relation (low_of case k field) (high_of case k field) value ∷ stack
truths_after_item case items.Not stack = negate_top_truths stack
truths_after_item case items.And stack = join_top_truths and_truths stack
truths_after_item case items.Or stack = join_top_truths or_truths stack

-- the stack after a list of items
abbrev pub truths_after_items : List TestAnswer → List ConditionItem → List TruthSet → List TruthSet
truths_after_items case [] stack = stack
truths_after_items case (i ∷ is) stack = truths_after_items case is (truths_after_item case i stack)

-- the truth set on top of the stack, or that of FALSE if the stack is empty
abbrev pub top_truths : List TruthSet → TruthSet
top_truths [] = truth_set false true
top_truths (a ∷ stack) = a

-- the truth set of the condition of these items
abbrev pub condition_truths : List TestAnswer → List ConditionItem → TruthSet
condition_truths case is = top_truths (truths_after_items case is [])

-- the truth set of a condition with its exception: the condition and the negation of the exception
abbrev pub rule_truths : List TestAnswer → List ConditionItem → List ConditionItem → TruthSet
rule_truths case when unless =
    and_truths (condition_truths case when) (negate_truths (condition_truths case unless))
