-- Laws of the meaning of a text.
use Rattle.std.specs.Prelude.{◌≡◌, ℕ, Bool, not, ◌&&◌, ◌||◌, List, [], ◌∷◌, ◌++◌, Some, Result}
use Rattle.bay_config.specs.declared.bay.Bay.{Bay}
use Rattle.bay_audit_rules.specs.declared.fault.RuleFault.{RuleFault}
use Rattle.bay_audit_rules.specs.declared.rule.ConditionItem.{ConditionItem}
use Rattle.bay_audit_rules.specs.declared.rule.ConditionItem.TheVariants as items
use Rattle.bay_audit_rules.specs.declared.rule.Rule.{Rule}
use Rattle.bay_audit_rules.specs.declared.token.RuleToken.{RuleToken}
use Rattle.bay_audit_rules.specs.Grammar.{Level, Reads}
use Rattle.bay_audit_rules.specs.Meaning.{TextRead}
use Rattle.bay_audit_rules.specs.Process.{Process, after_items, holds}

-- a text has at most one reading
abbrev pub OneReading : Type 0
OneReading =
    (bay : Bay) (text : List ℕ) (r q : Result (List Rule) RuleFault)
    → TextRead bay text r → TextRead bay text q → r ≡ q

-- the items push exactly one truth value on any stack
abbrev pub IsCondition : List ConditionItem → Type 0
IsCondition c = (p : Process) (stack : List Bool) → after_items p c stack ≡ holds c p ∷ stack

-- the items of each part of a condition push exactly one truth value on any stack
abbrev pub AreConditions : Type 0
AreConditions =
    (level : Level) (ts : List RuleToken) (c : List ConditionItem) → Reads level ts (Some c)
    → IsCondition c

-- the truth value of a negation, a conjunction and a disjunction is that of the operands' truth
-- values
pub record AreJoined (p : Process) (c d : List ConditionItem) : Type 0 where
  pub negated : holds (c ++ (items.Not ∷ [])) p ≡ not (holds c p)
  pub both : holds ((c ++ d) ++ (items.And ∷ [])) p ≡ (holds c p && holds d p)
  pub either : holds ((c ++ d) ++ (items.Or ∷ [])) p ≡ (holds c p || holds d p)

-- any two conditions, negated and joined, have the truth values of their operands, negated and
-- joined
abbrev pub AreTruths : Type 0
AreTruths =
    (p : Process) (c d : List ConditionItem) → IsCondition c → IsCondition d → AreJoined p c d
