-- How the code goes once through the tokens of a condition, from the left, with a stack of pending
-- operators. The grammar defines their meaning; this defines how the code finds it.
use Rattle.std.specs.Prelude.{ℕ, zero, suc, Bool, true, false, List, [], ◌∷◌, Option, None, Some, option_map}
use Rattle.bay_audit_rules.specs.declared.draft.Pending.{Pending}
use Rattle.bay_audit_rules.specs.declared.draft.Pending.TheVariants as waits
use Rattle.bay_audit_rules.specs.declared.rule.ConditionItem.TheVariants as items
use Rattle.bay_audit_rules.specs.declared.rule.Relation.{Relation}
use Rattle.bay_audit_rules.specs.declared.token.Connector.TheVariants.{And, Or, End}
use Rattle.bay_audit_rules.specs.declared.token.NamedObject.{NamedObject}
use Rattle.bay_audit_rules.specs.declared.token.RuleToken.{RuleToken}
use Rattle.bay_audit_rules.specs.declared.token.RuleToken.TheVariants as token
use Rattle.bay_audit_rules.specs.declared.token.TestValue.{TestValue}
use Rattle.bay_audit_rules.specs.declared.token.TestValue.TheVariants.{Truth, Number}
use Rattle.bay_audit_rules.specs.Facts.{Items, ◌⊕◌, item, negation, value_items, relation_items}
use Rattle.bay_audit_rules.specs.Grammar.{value_of}

-- items, and the number of tokens that they were read from
abbrev pub ReadItems : Type 0
ReadItems = Items × ℕ

-- a further value and those after it; none if the token is no value
abbrev pub value_at : NamedObject → Option TestValue → ReadItems → ReadItems
value_at named None more = (Some [], 0)
value_at named (Some value) more =
    (value_items named value ⊕ item items.Or ⊕ more.0, suc (suc more.1))

-- the further values at the start of the tokens
abbrev pub more_at : NamedObject → List RuleToken → ReadItems
more_at named (token.Bar ∷ (t ∷ ts)) = value_at named (value_of t) (more_at named ts)
more_at named other = (Some [], 0)

-- a first value, with those that follow it; None if the token is no value
abbrev pub first_at : NamedObject → Bool → Option TestValue → List RuleToken → Option ReadItems
first_at named negated None ts = None
first_at named negated (Some value) ts =
    let more = more_at named ts in
    Some (value_items named value ⊕ more.0 ⊕ negation negated, suc more.1)

-- the values at the start of the tokens, with those that follow them; None if there is no value
abbrev pub values_at : NamedObject → Bool → List RuleToken → Option ReadItems
values_at named negated [] = None
values_at named negated (t ∷ ts) = first_at named negated (value_of t) ts

-- items that were read from one more token
abbrev pub with_one_more_token : Option ReadItems → Option ReadItems
with_one_more_token = option_map (λ taken. (taken.0, suc taken.1))

-- an input alone, unless values follow
abbrev pub or_alone : NamedObject → Option ReadItems → Option ReadItems
or_alone named (Some taken) = Some taken
or_alone named None = Some (value_items named (Truth true), 0)

-- the values after `is`, with an optional `not`
abbrev pub is_at : NamedObject → List RuleToken → Option ReadItems
is_at named (token.Not ∷ ts) = with_one_more_token (values_at named true ts)
is_at named ts = values_at named false ts

-- the number after a relation
abbrev pub number_at : NamedObject → Relation → List RuleToken → Option ReadItems
number_at named relation (token.TestValue (Number n) ∷ ts) =
    Some (relation_items named relation n, 1)
number_at named relation ts = None

-- the fact at the start of the tokens, after its name
abbrev pub fact_at : NamedObject → List RuleToken → Option ReadItems
fact_at named (token.Relation relation ∷ ts) = with_one_more_token (number_at named relation ts)
fact_at named (token.Is ∷ ts) = with_one_more_token (is_at named ts)
fact_at named (token.Not ∷ ts) = with_one_more_token (values_at named true ts)
fact_at named ts = or_alone named (values_at named false ts)

-- the last pending operator or parenthesis, if there is one
abbrev pub first_of : List Pending → Option Pending
first_of [] = None
first_of (wait ∷ pending) = Some wait

-- the pending operators and parentheses below the last one
abbrev pub rest_of : List Pending → List Pending
rest_of [] = []
rest_of (wait ∷ pending) = pending

-- the pending operators and parentheses, the last first, and the items so far
pub record State : Type 0 where
  pub pending : List Pending
  pub items : Items

-- the state with these pending operators and items
abbrev pub state : List Pending → Items → State
state pending c = record { pending = pending; items = c }

-- an operand is complete: the operators that are pending for it alone are appended
abbrev pub append_operators : List Pending → Items → State
append_operators (waits.Not ∷ pending) c = append_operators pending (c ⊕ item items.Not)
append_operators (waits.And ∷ pending) c = append_operators pending (c ⊕ item items.And)
append_operators pending c = state pending c

-- operands joined by `and` are complete: the `or` that is pending for them is appended
abbrev pub append_or : State → State
append_or s = closing s.pending s.items
  where
    closing : List Pending → Items → State
    closing (waits.Or ∷ pending) c = state pending (c ⊕ item items.Or)
    closing pending c = state pending c

-- the result of reading tokens: the items of a condition, and the tokens after it
abbrev pub ReadCondition : Type 0
ReadCondition = Option (Items × List RuleToken)

-- a condition is complete if nothing is pending
abbrev pub found_if_complete : State → List RuleToken → ReadCondition
found_if_complete s rest = alone s.pending s.items
  where
    alone : List Pending → Items → ReadCondition
    alone [] c = Some (c, rest)
    alone (wait ∷ pending) c = None

-- the condition that ends before the rest of the tokens, if nothing but an `or` is pending
abbrev pub finish : State → List RuleToken → ReadCondition
finish s rest = found_if_complete (append_or s) rest

-- the state of the reader: an operand is expected; or an operand is complete, and k of its tokens
-- are still to be skipped; or the condition has ended
pub data Phase : Type 0 where
  expects : Phase
  skips : ℕ → Phase
  over : ReadCondition → Phase

-- an operand is expected
abbrev pub expect_operand : List Pending → Items → Phase × State
expect_operand pending c = (expects, state pending c)

-- after the fact at the start of the tokens
abbrev pub after_fact : State → Option ReadItems → Phase × State
after_fact s None = (over None, s)
after_fact s (Some taken) = (skips taken.1, append_operators s.pending (s.items ⊕ taken.0))

-- a token where an operand is expected
abbrev pub operand_at : State → RuleToken → List RuleToken → Phase × State
operand_at s (token.Name named) ts = after_fact s (fact_at named ts)
operand_at s token.Not ts = expect_operand (waits.Not ∷ s.pending) s.items
operand_at s token.Begin ts = expect_operand (waits.Begin ∷ s.pending) s.items
operand_at s other ts = (over None, s)

-- a `)` closes the last `(`
abbrev pub close_parenthesis : State → Phase × State
close_parenthesis s = last s.pending s.items
  where
    last : List Pending → Items → Phase × State
    last (waits.Begin ∷ pending) c = (skips 0, append_operators pending c)
    last pending c = (over None, s)

-- a token after an operand
abbrev pub after_operand : State → RuleToken → List RuleToken → Phase × State
after_operand s (token.Connector And) ts = expect_operand (waits.And ∷ s.pending) s.items
after_operand s (token.Connector Or) ts =
    let last = append_or s in expect_operand (waits.Or ∷ last.pending) last.items
after_operand s (token.Connector End) ts = close_parenthesis (append_or s)
after_operand s other ts = (over (finish s (other ∷ ts)), s)

-- the phase and the state after one token
abbrev pub token_step : Phase → State → RuleToken → List RuleToken → Phase × State
token_step expects s t ts = operand_at s t ts
token_step (skips zero) s t ts = after_operand s t ts
token_step (skips (suc k)) s t ts = (skips k, s)
token_step (over found) s t ts = (over found, s)

-- the condition found at the end of the tokens
abbrev pub at_end : Phase → State → ReadCondition
at_end expects s = None
at_end (skips k) s = finish s []
at_end (over found) s = found

-- the condition found after all tokens
abbrev pub found_after_tokens : Phase → State → List RuleToken → ReadCondition
found_after_tokens phase s [] = at_end phase s
found_after_tokens phase s (t ∷ ts) = let then =
    token_step phase s t ts in found_after_tokens then.0 then.1 ts

-- the condition at the start of the tokens
unfoldable pub condition_at : List RuleToken → ReadCondition
condition_at ts = found_after_tokens expects (state [] (Some [])) ts
