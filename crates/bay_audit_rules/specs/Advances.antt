-- The results of the parts of the condition reader, in terms of `Running`.
use Rattle.std.specs.Prelude.{◌≡◌, ℕ, Bool, true, false, List, ◌∷◌, drop, Option, None, Some}
use Rattle.std.specs.Borrow.{Bor}
use Rattle.bay_audit_rules.specs.declared.condition.Advance.{Advance}
use Rattle.bay_audit_rules.specs.declared.condition.Advance.TheVariants.{On, Stop, Refuse}
use Rattle.bay_audit_rules.specs.declared.token.RuleToken.{RuleToken}
use Rattle.bay_audit_rules.specs.Facts.{Items, ◌⊕◌}
use Rattle.bay_audit_rules.specs.Running.{ReadItems, State, Phase, expects, skips, over, ReadCondition, finish}

-- the tokens at the start were consumed, and their items appended
pub record Consumed (taken : ReadItems) (old new : Items) (ts left : List RuleToken) : Type 0 where
  pub items : new ≡ old ⊕ taken.0
  pub rest : left ≡ drop taken.1 ts

-- the tokens at the start, if there are such tokens, were consumed, and their items appended
abbrev pub ConsumedIf : Option ReadItems → Items → Items → List RuleToken
    → Option (Bor (List RuleToken))
    → Type 0
ConsumedIf None old new ts None = new ≡ old
ConsumedIf None old new ts (Some rest) = ⊥
ConsumedIf (Some taken) old new ts None = ⊥
ConsumedIf (Some taken) old new ts (Some rest) = Consumed taken old new ts rest.now

-- the phase with an operand expected, or the one after an operand
abbrev pub phase_of : Bool → Phase
phase_of true = expects
phase_of false = skips 0

-- the result of one token is the phase and the state that the definition yields
abbrev pub IsAdvance : Advance → State → RuleToken → List RuleToken → Phase × State → Type 0
IsAdvance (On true rest) new t ts then = (then ≡ (expects, new)) × (rest.now ≡ ts)
IsAdvance (On false rest) new t ts then = (k : ℕ) × (then ≡ (skips k, new)) × (rest.now ≡ drop k ts)
IsAdvance Stop new t ts then = then ≡ (over (finish new (t ∷ ts)), new)
IsAdvance Refuse new t ts then = then.0 ≡ over None

-- a condition was found, and its items are in the draft; or none was found
abbrev pub IsReadCondition : ReadCondition → Items → Option (Bor (List RuleToken)) → Type 0
IsReadCondition found new None = found ≡ None
IsReadCondition found new (Some rest) = found ≡ Some (new, rest.now)
