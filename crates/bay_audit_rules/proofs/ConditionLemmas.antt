-- The code of a condition's reader goes as the definition does.
use Rattle.std.proofs.Common.{◌≡◌, ℕ, zero, suc, Bool, true, false, List, [], ◌∷◌, drop, append_assoc, Bor, Some, None, refl, ap, ◌∙◌}
use Rattle.bay_audit_rules.specs.declared.condition.Advance.TheVariants.{On, Stop, Refuse}
use Rattle.bay_audit_rules.specs.declared.rule.ConditionItem.TheVariants as items
use Rattle.bay_audit_rules.specs.declared.token.NamedObject.{NamedObject}
use Rattle.bay_audit_rules.specs.declared.token.RuleToken.{RuleToken}
use Rattle.bay_audit_rules.specs.declared.token.RuleToken.TheVariants as token
use Rattle.bay_audit_rules.specs.declared.token.TestValue.{TestValue}
use Rattle.bay_audit_rules.specs.Facts.{Items, ◌⊕◌, item, negation, value_items}
use Rattle.bay_audit_rules.specs.Grammar.{value_of}
use Rattle.bay_audit_rules.specs.Running.{more_at, values_at, State, finish, Phase, skips, over, ReadCondition, token_step, found_after_tokens}
use Rattle.bay_audit_rules.specs.Advances.{ConsumedIf, phase_of, IsAdvance}

-- ---- items one after another

pub plus-assoc : (a b c : Items) → (a ⊕ b) ⊕ c ≡ a ⊕ (b ⊕ c)
plus-assoc None b c = refl
plus-assoc (Some a) None c = refl
plus-assoc (Some a) (Some b) None = refl
plus-assoc (Some a) (Some b) (Some c) = ap Some (append_assoc a b c)

pub none-plus : (c : Items) → Some [] ⊕ c ≡ c
none-plus None = refl
none-plus (Some c) = refl

pub plus-four : (a b c d : Items) → ((a ⊕ b) ⊕ c) ⊕ d ≡ a ⊕ ((b ⊕ c) ⊕ d)
plus-four a b c d = ap (λ x. x ⊕ d) (plus-assoc a b c) ∙ plus-assoc a (b ⊕ c) d

-- ---- values

-- one more value
pub record MoreTook (named : NamedObject) (old new : Items) (ts left : List RuleToken)
    : Type 0 where
  pub items : new ⊕ (more_at named left).0 ≡ old ⊕ (more_at named ts).0
  pub rest : drop (more_at named left).1 left ≡ drop (more_at named ts).1 ts

pub more-step : (named : NamedObject) (old new : Items) (ts others left : List RuleToken)
    (t : RuleToken)
    (value : TestValue) → ts ≡ token.Bar ∷ others → others ≡ t ∷ left → value_of t ≡ Some value
    → new ≡ (old ⊕ value_items named value) ⊕ item items.Or → MoreTook named old new ts left
more-step named old new ts others left t value p q is e =
    record {
      items = rw (p, q, is, e) (plus-four old (value_items named value) (item items.Or)
          (more_at named left).0);
      rest = rw (p, q, is) refl;
    }

pub values-step : (named : NamedObject) (negated : Bool) (old new : Items)
    (ts others : List RuleToken)
    (left : Bor (List RuleToken)) (t : RuleToken) (value : TestValue) → ts ≡ t ∷ others
    → value_of t ≡ Some value
    → new ≡ ((old ⊕ value_items named value) ⊕ (more_at named others).0) ⊕ negation negated
    → left.now ≡ drop (more_at named others).1 others
    → ConsumedIf (values_at named negated ts) old new ts (Some left)
values-step named negated old new ts others left t value p is e f =
    rw (p, is) (record {
      items = e ∙ plus-four old (value_items named value) (more_at named others).0
          (negation negated);
      rest = f;
    })

-- ---- tokens that are passed

pub run-over : (found : ReadCondition) (s : State) (ts : List RuleToken)
    → found_after_tokens (over found) s ts ≡ found
run-over found s [] = refl
run-over found s (t ∷ ts) = run-over found s ts

pub run-passes : (k : ℕ) (s : State) (ts : List RuleToken)
    → found_after_tokens (skips k) s ts ≡ found_after_tokens (skips 0) s (drop k ts)
run-passes zero s ts = refl
run-passes (suc k) s [] = refl
run-passes (suc k) s (t ∷ ts) = run-passes k s ts

-- ---- turns

pub turn-on : (phase : Phase) (expects : Bool) (s new : State) (t : RuleToken)
    (all ts : List RuleToken) (left : Bor (List RuleToken)) → all ≡ t ∷ ts
    → IsAdvance (On expects left) new t ts (token_step phase s t ts)
    → found_after_tokens phase s all ≡ found_after_tokens (phase_of expects) new left.now
turn-on phase true s new t all ts left p goes = rw (p, goes.0, goes.1) refl
turn-on phase false s new t all ts left p goes =
    rw (p, goes.1, goes.2) (run-passes goes.0 new ts)

pub turn-stop : (phase : Phase) (s new : State) (t : RuleToken) (all ts : List RuleToken)
    → all ≡ t ∷ ts
    → IsAdvance Stop new t ts (token_step phase s t ts)
    → found_after_tokens phase s all ≡ finish new all
turn-stop phase s new t all ts p goes = rw (p, goes) (run-over (finish new (t ∷ ts)) new ts)

pub turn-refuse : (phase : Phase) (s new : State) (t : RuleToken) (all ts : List RuleToken)
    → all ≡ t ∷ ts
    → IsAdvance Refuse new t ts (token_step phase s t ts) → found_after_tokens phase s all ≡ None
turn-refuse phase s new t all ts p goes =
    rw (p, goes) (run-over None (token_step phase s t ts).1 ts)
