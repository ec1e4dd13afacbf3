-- The tokens of a condition are gone through as the grammar says: each condition of the grammar is
-- found, and what is found is one.
use Rattle.std.proofs.Common.{◌≡◌, Bool, true, false, List, [], ◌∷◌, ◌++◌, length, append_assoc, Option, Some, refl, ap, ◌∙◌}
use Rattle.bay_audit_rules.specs.declared.draft.Pending.{Pending}
use Rattle.bay_audit_rules.specs.declared.draft.Pending.TheVariants as waits
use Rattle.bay_audit_rules.specs.declared.rule.ConditionItem.TheVariants as items
use Rattle.bay_audit_rules.specs.declared.token.Connector.{Connector}
use Rattle.bay_audit_rules.specs.declared.token.Connector.TheVariants.{And, Or, End}
use Rattle.bay_audit_rules.specs.declared.token.NamedObject.{NamedObject}
use Rattle.bay_audit_rules.specs.declared.token.RuleToken.{RuleToken}
use Rattle.bay_audit_rules.specs.declared.token.RuleToken.TheVariants as token
use Rattle.bay_audit_rules.specs.declared.token.TestValue.{TestValue}
use Rattle.bay_audit_rules.proofs.ConditionLemmas.{plus-assoc, plus-four, none-plus, run-over}
use Rattle.bay_audit_rules.specs.Facts.{Items, ◌⊕◌, item, negation, value_items}
use Rattle.bay_audit_rules.specs.Grammar.{value_of, AreValues, IsComparison, IsFact, Level, operand, conjunction, condition, Reads}
use Rattle.bay_audit_rules.specs.Running.{ReadItems, more_at, fact_at, values_at, is_at, or_alone, with_one_more_token, State, state, append_operators, append_or, after_fact, close_parenthesis, found_if_complete, finish, expects, skips, found_after_tokens, condition_at}

-- ---- tokens that are passed

run-passed : (s : State) (ts rest : List RuleToken)
    → found_after_tokens (skips (length ts)) s (ts ++ rest) ≡ found_after_tokens (skips 0) s rest
run-passed s [] rest = refl
run-passed s (t ∷ ts) rest = run-passed s ts rest

-- ---- each fact is found

-- no fact goes on here: the tokens end, or one stands that is behind an operand
pub data Ends : List RuleToken → Type 0 where
  at_end : Ends []
  at_link : {l : Connector} {ts : List RuleToken} → Ends (token.Connector l ∷ ts)
  at_for : {ts : List RuleToken} → Ends (token.For ∷ ts)
  at_when : {ts : List RuleToken} → Ends (token.When ∷ ts)

-- what is taken of tokens
abbrev pub taken : Items → List RuleToken → ReadItems
taken c ts = (c, length ts)

values-found : (named : NamedObject) (ts : List RuleToken) (c : Items) (rest : List RuleToken)
    → AreValues named ts c → Ends rest → more_at named (ts ++ rest) ≡ taken c ts
values-found named ts c rest AreValues.none at_end = refl
values-found named ts c rest AreValues.none at_link = refl
values-found named ts c rest AreValues.none at_for = refl
values-found named ts c rest AreValues.none at_when = refl
values-found named ts c rest (AreValues.bar {t = t} {ts = us} {c = d} is-value more) ends =
    rw (is-value, values-found named us d rest more ends) refl

first-found : (named : NamedObject) (negated : Bool) (t : RuleToken) (value : TestValue)
    (us : List RuleToken)
    (c : Items) (rest : List RuleToken) → value_of t ≡ Some value → AreValues named us c → Ends rest
    → values_at named negated (t ∷ (us ++ rest))
    ≡ Some (taken (value_items named value ⊕ c ⊕ negation negated) (t ∷ us))
first-found named negated t value us c rest is-value more ends =
    rw (is-value, values-found named us c rest more ends) refl

-- a value at the front is no other part of a fact
value-front : (named : NamedObject) (t : RuleToken) (value : TestValue) (ts : List RuleToken)
    → value_of t ≡ Some value
    → fact_at named (t ∷ ts) ≡ or_alone named (values_at named false (t ∷ ts))
value-front named (token.TestValue v) value ts e = refl
value-front named token.Open value ts e = refl
value-front named (token.Relation r) value ts e = absurd cc
value-front named token.Is value ts e = absurd cc
value-front named token.Not value ts e = absurd cc
value-front named other value ts e = refl

value-behind : (named : NamedObject) (t : RuleToken) (value : TestValue) (ts : List RuleToken)
    → value_of t ≡ Some value → is_at named (t ∷ ts) ≡ values_at named false (t ∷ ts)
value-behind named (token.TestValue v) value ts e = refl
value-behind named token.Not value ts e = absurd cc
value-behind named other value ts e = refl

pub fact-found : (named : NamedObject) (ts : List RuleToken) (c : Items) (rest : List RuleToken)
    → IsFact named ts c → Ends rest → fact_at named (ts ++ rest) ≡ Some (taken c ts)
fact-found named ts c rest IsFact.alone at_end = refl
fact-found named ts c rest IsFact.alone at_link = refl
fact-found named ts c rest IsFact.alone at_for = refl
fact-found named ts c rest IsFact.alone at_when = refl
fact-found named ts c rest IsFact.related ends = refl
fact-found named ts c rest
    (IsFact.valued t {value = value} {ts = us} {c = d} IsComparison.plain is-value
    more) ends =
    value-front named t value (us ++ rest) is-value
    ∙ ap (or_alone named) (first-found named false t value us d rest is-value more ends)
fact-found named ts c rest
    (IsFact.valued t {value = value} {ts = us} {c = d} IsComparison.is is-value
    more) ends =
    ap with_one_more_token (value-behind named t value (us ++ rest) is-value
    ∙ first-found named false t value us d rest is-value more ends)
fact-found named ts c rest
    (IsFact.valued t {value = value} {ts = us} {c = d} IsComparison.not is-value
    more) ends =
    ap with_one_more_token (first-found named true t value us d rest is-value more ends)
fact-found named ts c rest (IsFact.valued t {value = value} {ts = us} {c = d} IsComparison.is_not
    is-value more) ends =
    ap (λ x. with_one_more_token (with_one_more_token x))
    (first-found named true t value us d rest is-value more ends)

-- ---- each condition is found

-- nothing waits at the end for an operand alone
pub data IsOpen : List Pending → Type 0 where
  empty : IsOpen []
  begun : {pending : List Pending} → IsOpen (waits.Begin ∷ pending)
  chosen : {pending : List Pending} → IsOpen (waits.Or ∷ pending)

-- nor for operands joined by `and`
pub data IsBase : List Pending → Type 0 where
  empty : IsBase []
  begun : {pending : List Pending} → IsBase (waits.Begin ∷ pending)

pub open-settled : (pending : List Pending) (c : Items) → IsOpen pending
    → append_operators pending c ≡ state pending c
open-settled pending c empty = refl
open-settled pending c begun = refl
open-settled pending c chosen = refl

base-closed : (pending : List Pending) (c : Items) → IsBase pending
    → append_or (state pending c) ≡ state pending c
base-closed pending c empty = refl
base-closed pending c begun = refl

base-open : (pending : List Pending) → IsBase pending → IsOpen pending
base-open pending empty = empty
base-open pending begun = begun

-- the tokens are gone through as what they are read as
pub record IsFound (pending : List Pending) (c : Items) (ts : List RuleToken) (d : Items)
    (rest : List RuleToken) : Type 0 where
  pub last : State
  pub goes : found_after_tokens expects (state pending c) (ts ++ rest)
      ≡ found_after_tokens (skips 0) last rest
  pub closes : append_or last ≡ state pending (c ⊕ d)

abbrev pub Finds : Level → List RuleToken → Items → Type 0
Finds operand ts d = (pending : List Pending) (c : Items) (rest : List RuleToken) → Ends rest
    → found_after_tokens expects (state pending c) (ts ++ rest)
    ≡ found_after_tokens (skips 0) (append_operators pending (c ⊕ d)) rest
Finds conjunction ts d =
    (pending : List Pending) (c : Items) (rest : List RuleToken) → IsOpen pending
    → Ends rest
    → found_after_tokens expects (state pending c) (ts ++ rest)
    ≡ found_after_tokens (skips 0) (state pending (c ⊕ d)) rest
Finds condition ts d = (pending : List Pending) (c : Items) (rest : List RuleToken) → IsBase pending
    → Ends rest → IsFound pending c ts d rest

pub finds : (level : Level) (ts : List RuleToken) (d : Items) → Reads level ts d → Finds level ts d
finds level ts d (Reads.fact {named = named} {ts = us} is) = λ pending c rest ends.
    ap (λ (x : Option ReadItems). let then =
    after_fact (state pending c) x in found_after_tokens then.0 then.1 (us ++ rest))
    (fact-found named us d rest is ends)
    ∙ run-passed (append_operators pending (c ⊕ d)) us rest
finds level ts d (Reads.not {ts = us} {c = e} r) = λ pending c rest ends.
    finds operand us e r (waits.Not ∷ pending) c rest ends
    ∙ ap (λ x. found_after_tokens (skips 0) (append_operators pending x) rest)
    (plus-assoc c e (item items.Not))
finds level ts d (Reads.group {ts = us} r) = λ pending c rest ends.
    let found = finds condition us d r (waits.Begin ∷ pending) c (token.Connector End ∷ rest) begun
    at_link in
    ap (found_after_tokens expects (state (waits.Begin ∷ pending) c))
    (append_assoc us (token.Connector End ∷ []) rest)
    ∙ found.goes
    ∙ ap (λ (s : State). let then = close_parenthesis s in found_after_tokens then.0 then.1 rest)
    found.closes
finds level ts d (Reads.one r) = λ pending c rest is ends.
    finds operand ts d r pending c rest ends
    ∙ ap (λ s. found_after_tokens (skips 0) s rest) (open-settled pending (c ⊕ d) is)
finds level ts d (Reads.and {ts = us} {us = vs} {c = e} {d = f} r q) = λ pending c rest is ends.
    ap (found_after_tokens expects (state pending c))
    (append_assoc us (token.Connector And ∷ vs) rest)
    ∙ finds conjunction us e r pending c (token.Connector And ∷ (vs ++ rest)) is at_link
    ∙ finds operand vs f q (waits.And ∷ pending) (c ⊕ e) rest ends
    ∙ ap (λ s. found_after_tokens (skips 0) s rest)
    (open-settled pending (((c ⊕ e) ⊕ f) ⊕ item items.And) is
    ∙ ap (state pending) (plus-four c e f (item items.And)))
finds level ts d (Reads.all r) = λ pending c rest is ends.
    record {
      last = state pending (c ⊕ d);
      goes = finds conjunction ts d r pending c rest (base-open pending is) ends;
      closes = base-closed pending (c ⊕ d) is;
    }
finds level ts d (Reads.or {ts = us} {us = vs} {c = e} {d = f} r q) = λ pending c rest is ends.
    let found = finds condition us e r pending c (token.Connector Or ∷ (vs ++ rest)) is at_link in
    record {
      last = state (waits.Or ∷ pending) ((c ⊕ e) ⊕ f);
      goes = ap (found_after_tokens expects (state pending c))
          (append_assoc us (token.Connector Or ∷ vs) rest)
          ∙ found.goes
          ∙ ap (λ (s : State). found_after_tokens expects (state (waits.Or ∷ s.pending) s.items)
          (vs ++ rest))
          found.closes
          ∙ finds conjunction vs f q (waits.Or ∷ pending) (c ⊕ e) rest chosen ends;
      closes = ap (state pending) (plus-four c e f (item items.Or));
    }

-- a condition ends here: the tokens end, or `for` or `when` stands there
pub data Stops : List RuleToken → Type 0 where
  at_end : Stops []
  at_for : {ts : List RuleToken} → Stops (token.For ∷ ts)
  at_when : {ts : List RuleToken} → Stops (token.When ∷ ts)

stops-ends : (rest : List RuleToken) → Stops rest → Ends rest
stops-ends rest at_end = at_end
stops-ends rest at_for = at_for
stops-ends rest at_when = at_when

stops-finish : (s : State) (rest : List RuleToken) → Stops rest
    → found_after_tokens (skips 0) s rest ≡ finish s rest
stops-finish s rest at_end = refl
stops-finish s rest (at_for {ts = ts}) = run-over (finish s (token.For ∷ ts)) s ts
stops-finish s rest (at_when {ts = ts}) = run-over (finish s (token.When ∷ ts)) s ts

-- each condition of the grammar is found
pub condition-found : (ts : List RuleToken) (d : Items) (rest : List RuleToken)
    → Reads condition ts d
    → Stops rest → condition_at (ts ++ rest) ≡ Some (d, rest)
unfolding condition_at
condition-found ts d rest r stops =
    let found = finds condition ts d r [] (Some []) rest empty (stops-ends rest stops) in
    found.goes ∙ stops-finish found.last rest stops
    ∙ ap (λ (s : State). found_if_complete s rest) (found.closes ∙ ap (state []) (none-plus d))
