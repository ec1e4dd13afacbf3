-- What is found of a condition is what the grammar reads.
use Rattle.std.proofs.Common.{◌≡◌, zero, suc, Bool, true, false, List, [], ◌∷◌, ◌++◌, take, append_assoc, Option, Some, None, refl, sym, ap, ◌∙◌, subst}
use Rattle.std.proofs.lemmas.Option.{same_Some}
use Rattle.std.proofs.lemmas.List.{append-nil}
use Rattle.bay_audit_rules.specs.declared.draft.Pending.{Pending}
use Rattle.bay_audit_rules.specs.declared.draft.Pending.TheVariants as waits
use Rattle.bay_audit_rules.specs.declared.rule.ConditionItem.TheVariants as items
use Rattle.bay_audit_rules.specs.declared.rule.Relation.{Relation}
use Rattle.bay_audit_rules.specs.declared.token.Connector.TheVariants.{And, Or, End}
use Rattle.bay_audit_rules.specs.declared.token.NamedObject.{NamedObject}
use Rattle.bay_audit_rules.specs.declared.token.RuleToken.{RuleToken}
use Rattle.bay_audit_rules.specs.declared.token.RuleToken.TheVariants as token
use Rattle.bay_audit_rules.specs.declared.token.TestValue.{TestValue}
use Rattle.bay_audit_rules.specs.declared.token.TestValue.TheVariants.{Position, Truth, Number}
use Rattle.bay_audit_rules.specs.Facts.{Items, ◌⊕◌, item, negation, value_items}
use Rattle.bay_audit_rules.specs.Grammar.{value_of, AreValues, IsComparison, IsFact, operand, conjunction, condition, Reads}
use Rattle.bay_audit_rules.specs.Running.{ReadItems, more_at, values_at, number_at, is_at, or_alone, with_one_more_token, fact_at, State, state, append_operators, append_or, after_fact, close_parenthesis, found_if_complete, finish, operand_at, after_operand, Phase, expects, skips, over, token_step, found_after_tokens, ReadCondition, condition_at}
use Rattle.bay_audit_rules.proofs.ConditionLemmas.{plus-assoc, plus-four, none-plus}
use Rattle.bay_audit_rules.proofs.GrammarLemmas.{IsOpen, IsBase, open-settled}

-- ---- each fact that is found is one

values-read : (named : NamedObject) (ts : List RuleToken)
    → AreValues named (take (more_at named ts).1 ts) (more_at named ts).0
values-read named [] = AreValues.none
values-read named (token.Bar ∷ []) = AreValues.none
values-read named (token.Bar ∷ (t ∷ ts)) = by-value (values-read named ts) (value_of t) refl
  where
    by-value : AreValues named (take (more_at named ts).1 ts) (more_at named ts).0
        → (v : Option TestValue) → value_of t ≡ v
        → AreValues named (take (more_at named (token.Bar ∷ (t ∷ ts))).1 (token.Bar ∷ (t ∷ ts)))
        (more_at named (token.Bar ∷ (t ∷ ts))).0
    by-value rest None e = rw e AreValues.none
    by-value rest (Some v) e = rw e (AreValues.bar e rest)
values-read named (other ∷ ts) = AreValues.none

-- what was taken is a fact
abbrev pub IsTaken : NamedObject → List RuleToken → List RuleToken → ReadItems → Type 0
IsTaken named between ts taken = IsFact named (between ++ take taken.1 ts) taken.0

first-read : (named : NamedObject) (between : List RuleToken) (negated : Bool) (ts : List RuleToken)
    (taken : ReadItems)
    → IsComparison between negated → values_at named negated ts ≡ Some taken
    → IsTaken named between ts taken
first-read named between negated [] taken how e = absurd cc
first-read named between negated (t ∷ ts) taken how e = by-value (value_of t) refl
  where
    by-value : (v : Option TestValue) → value_of t ≡ v → IsTaken named between (t ∷ ts) taken
    by-value None f = let none : None ≡ Some taken = rw f at e in absurd cc
    by-value (Some v) f =
        let more = more_at named ts in
        let found : Some (value_items named v ⊕ more.0 ⊕ negation negated, suc more.1) ≡ Some taken
        =
        rw f at e in
        subst (IsTaken named between (t ∷ ts)) (same_Some _ taken found)
        (IsFact.valued t how f (values-read named ts))

-- what is taken with a token more
pub record IsBehind (x : Option ReadItems) (taken : ReadItems) : Type 0 where
  pub first : ReadItems
  pub was : x ≡ Some first
  pub is : (first.0, suc first.1) ≡ taken

behind-some : (x : Option ReadItems) (taken : ReadItems) → with_one_more_token x ≡ Some taken
    → IsBehind x taken
behind-some None taken e = absurd cc
behind-some (Some y) taken e =
    record { first = y; was = refl; is = same_Some (y.0, suc y.1) taken e }

number-read : (named : NamedObject) (relation : Relation) (ts : List RuleToken) (taken : ReadItems)
    → number_at named relation ts ≡ Some taken
    → IsFact named (take (suc taken.1) (token.Relation relation ∷ ts)) taken.0
number-read named relation [] taken e = absurd cc
number-read named relation (token.TestValue (Number n) ∷ ts) taken e =
    subst (λ (k : ReadItems). IsFact named (take (suc k.1)
    (token.Relation relation ∷ (token.TestValue (Number n) ∷ ts))) k.0)
    (same_Some _ taken e) IsFact.related
number-read named relation (token.TestValue (Position p) ∷ ts) taken e = absurd cc
number-read named relation (token.TestValue (Truth b) ∷ ts) taken e = absurd cc
number-read named relation (other ∷ ts) taken e = absurd cc

-- a fact behind one token
one-behind : (named : NamedObject) (t : RuleToken) (ts : List RuleToken) (x : Option ReadItems)
    (taken : ReadItems)
    → with_one_more_token x ≡ Some taken
    → ((y : ReadItems) → x ≡ Some y → IsFact named (take (suc y.1) (t ∷ ts)) y.0)
    → IsFact named (take taken.1 (t ∷ ts)) taken.0
one-behind named t ts x taken e read =
    let at = behind-some x taken e in
    subst (λ (k : ReadItems). IsFact named (take k.1 (t ∷ ts)) k.0) at.is (read at.first at.was)

is-read : (named : NamedObject) (ts : List RuleToken) (taken : ReadItems)
    → is_at named ts ≡ Some taken
    → IsFact named (take (suc taken.1) (token.Is ∷ ts)) taken.0
is-read named [] taken e = absurd cc
is-read named (token.Not ∷ ts) taken e =
    let at = behind-some (values_at named true ts) taken e in
    subst (λ (k : ReadItems). IsFact named (take (suc k.1) (token.Is ∷ (token.Not ∷ ts))) k.0) at.is
    (first-read named (token.Is ∷ (token.Not ∷ [])) true ts at.first IsComparison.is_not at.was)
is-read named (other ∷ ts) taken e =
    first-read named (token.Is ∷ []) false (other ∷ ts) taken IsComparison.is e

alone-read : (named : NamedObject) (ts : List RuleToken) (x : Option ReadItems) (taken : ReadItems)
    → values_at named false ts ≡ x → or_alone named x ≡ Some taken
    → IsFact named (take taken.1 ts) taken.0
alone-read named ts None taken e f =
    subst (λ (k : ReadItems). IsFact named (take k.1 ts) k.0) (same_Some _ taken f) IsFact.alone
alone-read named ts (Some y) taken e f =
    first-read named [] false ts taken IsComparison.plain (e ∙ f)

pub fact-read : (named : NamedObject) (ts : List RuleToken) (taken : ReadItems)
    → fact_at named ts ≡ Some taken
    → IsFact named (take taken.1 ts) taken.0
fact-read named (token.Relation relation ∷ ts) taken e =
    one-behind named (token.Relation relation) ts (number_at named relation ts) taken e
    (number-read named relation ts)
fact-read named (token.Is ∷ ts) taken e =
    one-behind named token.Is ts (is_at named ts) taken e (is-read named ts)
fact-read named (token.Not ∷ ts) taken e =
    one-behind named token.Not ts (values_at named true ts) taken e
    (λ y is. first-read named (token.Not ∷ []) true ts y IsComparison.not is)
fact-read named ts taken e = alone-read named ts (values_at named false ts) taken refl e

-- ---- each condition that is found is one

-- what waits, with the items and the tokens so far, where an operand is expected
pub data Waits : List Pending → Items → List RuleToken → Type 0 where
  starts : Waits [] (Some []) []
  begins : {pending : List Pending} {c : Items} {ts : List RuleToken} → Waits pending c ts
      → Waits (waits.Begin ∷ pending) c (ts ++ (token.Begin ∷ []))
  negates : {pending : List Pending} {c : Items} {ts : List RuleToken} → Waits pending c ts
      → Waits (waits.Not ∷ pending) c (ts ++ (token.Not ∷ []))
  joins : {pending : List Pending} {c d : Items} {ts us : List RuleToken} → IsOpen pending
      → Waits pending c ts → Reads conjunction us d
      → Waits (waits.And ∷ pending) (c ⊕ d) (ts ++ (us ++ (token.Connector And ∷ [])))
  chooses : {pending : List Pending} {c d : Items} {ts us : List RuleToken} → IsBase pending
      → Waits pending c ts → Reads condition us d
      → Waits (waits.Or ∷ pending) (c ⊕ d) (ts ++ (us ++ (token.Connector Or ∷ [])))

-- behind an operand
pub record Stands (pending : List Pending) (c : Items) (ts : List RuleToken) : Type 0 where
  pub first : List RuleToken
  pub last : List RuleToken
  pub front : Items
  pub back : Items
  pub is_open : IsOpen pending
  pub waiting : Waits pending front first
  pub reads : Reads conjunction last back
  pub items : c ≡ front ⊕ back
  pub tokens : ts ≡ first ++ last

-- behind operands joined by `and`
pub record Closes (pending : List Pending) (c : Items) (ts : List RuleToken) : Type 0 where
  pub first : List RuleToken
  pub last : List RuleToken
  pub front : Items
  pub back : Items
  pub is_base : IsBase pending
  pub waiting : Waits pending front first
  pub reads : Reads condition last back
  pub items : c ≡ front ⊕ back
  pub tokens : ts ≡ first ++ last

abbrev pub StandsAt : State → List RuleToken → Type 0
StandsAt s ts = Stands s.pending s.items ts

settles : (pending : List Pending) (c : Items) (ts us : List RuleToken) (d : Items)
    → Waits pending c ts → Reads operand us d
    → StandsAt (append_operators pending (c ⊕ d)) (ts ++ us)
settles pending c ts us d starts r =
    record {
      first = [];
      last = us;
      front = Some [];
      back = d;
      is_open = IsOpen.empty;
      waiting = starts;
      reads = Reads.one r;
      items = refl;
      tokens = refl;
    }
settles pending c ts us d (begins w) r =
    record {
      first = ts;
      last = us;
      front = c;
      back = d;
      is_open = IsOpen.begun;
      waiting = begins w;
      reads = Reads.one r;
      items = refl;
      tokens = refl;
    }
settles pending c ts us d (chooses base w q) r =
    record {
      first = ts;
      last = us;
      front = c;
      back = d;
      is_open = IsOpen.chosen;
      waiting = chooses base w q;
      reads = Reads.one r;
      items = refl;
      tokens = refl;
    }
settles pending c ts us d (negates {pending = rest} {ts = vs} w) r =
    subst (StandsAt (append_operators rest ((c ⊕ d) ⊕ item items.Not)))
    (sym (append_assoc vs (token.Not ∷ []) us))
    (subst (λ (x : Items). StandsAt (append_operators rest x) (vs ++ (token.Not ∷ us)))
    (sym (plus-assoc c d (item items.Not)))
    (settles rest c vs (token.Not ∷ us) (d ⊕ item items.Not) w (Reads.not r)))
settles pending c ts us d (joins {pending = rest} {c = e} {d = f} {ts = vs} {us = xs} open-rest w
    q) r =
    rw (open-settled rest (((e ⊕ f) ⊕ d) ⊕ item items.And) open-rest)
    (record {
      first = vs;
      last = xs ++ (token.Connector And ∷ us);
      front = e;
      back = (f ⊕ d) ⊕ item items.And;
      is_open = open-rest;
      waiting = w;
      reads = Reads.and q r;
      items = plus-four e f d (item items.And);
      tokens = append_assoc vs (xs ++ (token.Connector And ∷ [])) us
          ∙ ap (λ ys. vs ++ ys) (append_assoc xs (token.Connector And ∷ []) us);
    })

abbrev pub ClosesAt : State → List RuleToken → Type 0
ClosesAt s ts = Closes s.pending s.items ts

closes-at : (pending : List Pending) (c front back : Items) (ts first last : List RuleToken)
    → IsOpen pending → Waits pending front first → Reads conjunction last back → c ≡ front ⊕ back
    → ts ≡ first ++ last → ClosesAt (append_or (state pending c)) ts
closes-at pending c front back ts first last IsOpen.empty w r is from =
    record {
      first = first;
      last = last;
      front = front;
      back = back;
      is_base = IsBase.empty;
      waiting = w;
      reads = Reads.all r;
      items = is;
      tokens = from;
    }
closes-at pending c front back ts first last IsOpen.begun w r is from =
    record {
      first = first;
      last = last;
      front = front;
      back = back;
      is_base = IsBase.begun;
      waiting = w;
      reads = Reads.all r;
      items = is;
      tokens = from;
    }
closes-at pending c front back ts first last IsOpen.chosen
    (chooses {c = e} {d = f} {ts = vs} {us = xs} base w q) r is from =
    record {
      first = vs;
      last = xs ++ (token.Connector Or ∷ last);
      front = e;
      back = (f ⊕ back) ⊕ item items.Or;
      is_base = base;
      waiting = w;
      reads = Reads.or q r;
      items = ap (λ x. x ⊕ item items.Or) is ∙ plus-four e f back (item items.Or);
      tokens = from ∙ append_assoc vs (xs ++ (token.Connector Or ∷ [])) last
          ∙ ap (λ ys. vs ++ ys) (append_assoc xs (token.Connector Or ∷ []) last);
    }

closes : (s : State) (ts : List RuleToken) → StandsAt s ts → ClosesAt (append_or s) ts
closes s ts at =
    closes-at s.pending s.items at.front at.back ts at.first at.last at.is_open at.waiting at.reads
    at.items at.tokens

-- a condition is read at the front of tokens
pub record IsRead (all : List RuleToken) (c : Items) (rest : List RuleToken) : Type 0 where
  pub front : List RuleToken
  pub reads : Reads condition front c
  pub tokens : all ≡ front ++ rest

alone-waits : (c d : Items) (ts us : List RuleToken) → Waits [] c ts → Reads condition us d
    → Reads condition (ts ++ us) (c ⊕ d)
alone-waits c d ts us starts r = rw (none-plus d) r

finished-read : (pending : List Pending) (c : Items) (ts rest : List RuleToken) (d : Items)
    (left : List RuleToken) → Closes pending c ts
    → found_if_complete (state pending c) rest ≡ Some (d, left)
    → IsRead (ts ++ rest) d left
finished-read [] c ts rest d left at e =
    let both : (c, rest) ≡ (d, left) = cc in
    let same : c ≡ d = ap (λ (x : Items × List RuleToken). x.0) both in
    let behind : rest ≡ left = ap (λ (x : Items × List RuleToken). x.1) both in
    record {
      front = at.first ++ at.last;
      reads = rw (sym same ∙ at.items)
          (alone-waits at.front at.back at.first at.last at.waiting at.reads);
      tokens = rw (at.tokens, behind) refl;
    }
finished-read (wait ∷ pending) c ts rest d left at e = absurd cc

finish-read : (s : State) (ts rest : List RuleToken) (d : Items) (left : List RuleToken)
    → StandsAt s ts
    → finish s rest ≡ Some (d, left) → IsRead (ts ++ rest) d left
finish-read s ts rest d left at e =
    finished-read (append_or s).pending (append_or s).items ts rest d left (closes s ts at) e

-- what is known of the tokens so far, and of those to come
abbrev pub Follows : Phase → State → List RuleToken → List RuleToken → Type 0
Follows expects s us ts = Waits s.pending s.items us
Follows (skips k) s us ts = StandsAt s (us ++ take k ts)
Follows (over found) s us ts =
    (d : Items) (left : List RuleToken) → found ≡ Some (d, left) → IsRead (us ++ ts) d left

-- what is known after a token
abbrev pub FollowsAt : Phase × State → List RuleToken → List RuleToken → Type 0
FollowsAt then us ts = Follows then.0 then.1 us ts

nowhere : (us ts : List RuleToken) (d : Items) (left : List RuleToken)
    → ◌≡◌ {A = ReadCondition} None (Some (
      d,
      left,
    ))
    → IsRead (us ++ ts) d left
nowhere us ts d left e = absurd cc

took-follows : (s : State) (named : NamedObject) (us ts : List RuleToken) (x : Option ReadItems)
    → fact_at named ts ≡ x → Waits s.pending s.items us
    → FollowsAt (after_fact s x) (us ++ (token.Name named ∷ [])) ts
took-follows s named us ts None e w = nowhere (us ++ (token.Name named ∷ [])) ts
took-follows s named us ts (Some taken) e w =
    rw (append_assoc us (token.Name named ∷ []) (take taken.1 ts))
    (settles s.pending s.items us (token.Name named ∷ take taken.1 ts) taken.0 w
    (Reads.fact (fact-read named ts taken e)))

operand-follows : (s : State) (t : RuleToken) (us ts : List RuleToken) → Waits s.pending s.items us
    → FollowsAt (operand_at s t ts) (us ++ (t ∷ [])) ts
operand-follows s (token.Name named) us ts w =
    took-follows s named us ts (fact_at named ts) refl w
operand-follows s token.Not us ts w = negates w
operand-follows s token.Begin us ts w = begins w
operand-follows s other us ts w = nowhere (us ++ (other ∷ [])) ts

group-read : (pending : List Pending) (c front back : Items) (us first last : List RuleToken)
    → Waits (waits.Begin ∷ pending) front first → Reads condition last back → c ≡ front ⊕ back
    → us ≡ first ++ last → StandsAt (append_operators pending c) (us ++ (token.Connector End ∷ []))
group-read pending c front back us first last (begins {ts = vs} w) r is from =
    rw (
      is,
      from,
      append_assoc (vs ++ (token.Begin ∷ [])) last (token.Connector End ∷ []),
      append_assoc vs (token.Begin ∷ []) (last ++ (token.Connector End ∷ [])),
    )
    (settles pending front vs (token.Begin ∷ (last ++ (token.Connector End ∷ []))) back w
    (Reads.group
    r))

ended-follows : (pending : List Pending) (c : Items) (us ts : List RuleToken) → Closes pending c us
    → FollowsAt (close_parenthesis (state pending c)) (us ++ (token.Connector End ∷ [])) ts
ended-follows [] c us ts at = nowhere (us ++ (token.Connector End ∷ [])) ts
ended-follows (waits.Begin ∷ pending) c us ts at =
    rw append-nil
    (group-read pending c at.front at.back us at.first at.last at.waiting at.reads at.items
    at.tokens)
ended-follows (other ∷ pending) c us ts at = nowhere (us ++ (token.Connector End ∷ [])) ts

and-read : (pending : List Pending) (c : Items) (us first last : List RuleToken)
    (front back : Items)
    → IsOpen pending → Waits pending front first → Reads conjunction last back → c ≡ front ⊕ back
    → us ≡ first ++ last → Waits (waits.And ∷ pending) c (us ++ (token.Connector And ∷ []))
and-read pending c us first last front back is-open w r is from =
    rw (is, from, append_assoc first last (token.Connector And ∷ [])) (joins is-open w r)

or-read : (pending : List Pending) (c : Items) (us first last : List RuleToken) (front back : Items)
    → IsBase pending → Waits pending front first → Reads condition last back → c ≡ front ⊕ back
    → us ≡ first ++ last → Waits (waits.Or ∷ pending) c (us ++ (token.Connector Or ∷ []))
or-read pending c us first last front back base w r is from =
    rw (is, from, append_assoc first last (token.Connector Or ∷ [])) (chooses base w r)

behind-follows : (s : State) (t : RuleToken) (us ts : List RuleToken) → StandsAt s us
    → FollowsAt (after_operand s t ts) (us ++ (t ∷ [])) ts
behind-follows s (token.Connector And) us ts at =
    and-read s.pending s.items us at.first at.last at.front at.back at.is_open at.waiting at.reads
    at.items at.tokens
behind-follows s (token.Connector Or) us ts at =
    let last = closes s us at in
    or-read (append_or s).pending (append_or s).items us last.first last.last last.front last.back
    last.is_base last.waiting last.reads last.items last.tokens
behind-follows s (token.Connector End) us ts at =
    ended-follows (append_or s).pending (append_or s).items us ts (closes s us at)
behind-follows s other us ts at = λ d left e.
    rw (append_assoc us (other ∷ []) ts) (finish-read s us (other ∷ ts) d left at e)

next-follows : (phase : Phase) (s : State) (t : RuleToken) (us ts : List RuleToken)
    → Follows phase s us (t ∷ ts) → FollowsAt (token_step phase s t ts) (us ++ (t ∷ [])) ts
next-follows expects s t us ts at = operand-follows s t us ts at
next-follows (skips zero) s t us ts at = behind-follows s t us ts (rw append-nil at at)
next-follows (skips (suc k)) s t us ts at = rw (append_assoc us (t ∷ []) (take k ts)) at
next-follows (over found) s t us ts at = λ d left e.
    rw (append_assoc us (t ∷ []) ts) (at d left e)

run-read : (ts : List RuleToken) (phase : Phase) (s : State) (us : List RuleToken) (d : Items)
    (left : List RuleToken) → Follows phase s us ts → found_after_tokens phase s ts ≡ Some (d, left)
    → IsRead (us ++ ts) d left
run-read [] expects s us d left at e = absurd cc
run-read [] (skips zero) s us d left at e = finish-read s us [] d left (rw append-nil at at) e
run-read [] (skips (suc k)) s us d left at e = finish-read s us [] d left (rw append-nil at at) e
run-read [] (over found) s us d left at e = at d left e
run-read (t ∷ ts) phase s us d left at e =
    let then = token_step phase s t ts in
    rw (← append_assoc us (t ∷ []) ts)
    (run-read ts then.0 then.1 (us ++ (t ∷ [])) d left (next-follows phase s t us ts at) e)

-- what is found is a condition of the grammar, and what is left
pub condition-read : (ts : List RuleToken) (d : Items) (left : List RuleToken)
    → condition_at ts ≡ Some (d, left) → IsRead ts d left
unfolding condition_at
condition-read ts d left e = run-read ts expects (state [] (Some [])) [] d left starts e
