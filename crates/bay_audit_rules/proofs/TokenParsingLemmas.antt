-- The tokens of a line are read as the grammar says: each statement of the grammar is found, and
-- what is found is one.
use Rattle.std.proofs.Common.{◌≡◌, ℕ, zero, suc, Bool, true, false, List, [], ◌∷◌, ◌++◌, length, take, drop, append_assoc, Option, Some, None, option_map, refl, sym, ap, ◌∙◌, subst}
use Rattle.std.proofs.lemmas.Option.{same_Some}
use Rattle.std.proofs.lemmas.List.{append-nil}
use Rattle.bay_base.specs.Options.{◌>>=◌}
use Rattle.bay_audit_rules.specs.declared.rule.RuleKind.{RuleKind}
use Rattle.bay_audit_rules.specs.declared.rule.RuleKind.TheVariants.{Never, Always}
use Rattle.bay_audit_rules.specs.declared.statement.HeldCondition.{HeldCondition}
use Rattle.bay_audit_rules.specs.declared.statement.RuleStatement.{RuleStatement}
use Rattle.bay_audit_rules.specs.declared.statement.RuleStatement.TheVariants.{Looks, Rule}
use Rattle.bay_audit_rules.specs.declared.statement.Directions.{Directions}
use Rattle.bay_audit_rules.specs.declared.statement.Directions.TheVariants.{Opening, Closing, OpeningAndClosing, ClosingAndOpening}
use Rattle.bay_audit_rules.specs.declared.token.NamedObject.{NamedObject}
use Rattle.bay_audit_rules.specs.declared.token.RuleToken.{RuleToken}
use Rattle.bay_audit_rules.specs.declared.token.RuleToken.TheVariants as token
use Rattle.bay_audit_rules.specs.Facts.{Items}
use Rattle.bay_audit_rules.specs.Grammar.{IsFact, condition, Reads, direction_tokens, IsTimed, IsWhen, Spells}
use Rattle.bay_audit_rules.specs.Running.{ReadItems, fact_at, condition_at}
use Rattle.bay_audit_rules.specs.TokenParsing.{directions_at, directions_after_open, directions_after_close, time_after_condition, held_condition_at, same_kind, timed_at, only_items, when_at, looks_at, rule_at, statement_at}
use Rattle.bay_audit_rules.proofs.GrammarLemmas.{Ends, Stops, fact-found, condition-found}
use Rattle.bay_audit_rules.proofs.ReadLemmas.{fact-read, condition-read}

-- ---- each statement is found

-- the directions of a switch end here
data AfterWays : List RuleToken → Type 0 where
  at_end : AfterWays []
  at_since : {kind : RuleKind} {ts : List RuleToken} → AfterWays (token.Since kind ∷ ts)
  at_when : {ts : List RuleToken} → AfterWays (token.When ∷ ts)

ways-found : (directions : Directions) (rest : List RuleToken) → AfterWays rest
    → directions_at (direction_tokens directions ++ rest) ≡ Some (directions, rest)
ways-found Opening rest at_end = refl
ways-found Opening rest at_since = refl
ways-found Opening rest at_when = refl
ways-found Closing rest at_end = refl
ways-found Closing rest at_since = refl
ways-found Closing rest at_when = refl
ways-found OpeningAndClosing rest after = refl
ways-found ClosingAndOpening rest after = refl

same-kind : (kind : RuleKind) → same_kind kind kind ≡ true
same-kind Never = refl
same-kind Always = refl

when-stops : (vs : List RuleToken) (c : Items) → IsWhen vs c → Stops vs
when-stops vs c IsWhen.always = Stops.at_end
when-stops vs c (IsWhen.when r) = Stops.at_when

after-ways : (kind : RuleKind) (us vs : List RuleToken) (timed : Option HeldCondition) (c : Items)
    → IsTimed kind us timed → IsWhen vs c → AfterWays (us ++ vs)
after-ways kind us vs timed c IsTimed.untimed IsWhen.always = at_end
after-ways kind us vs timed c IsTimed.untimed (IsWhen.when r) = at_when
after-ways kind us vs timed c (IsTimed.timed q) r = at_since

timed-found : (kind : RuleKind) (us vs : List RuleToken) (timed : Option HeldCondition) (c : Items)
    → IsTimed kind us timed → IsWhen vs c → timed_at kind (us ++ vs) ≡ Some (timed, vs)
timed-found kind us vs timed c IsTimed.untimed IsWhen.always = refl
timed-found kind us vs timed c IsTimed.untimed (IsWhen.when r) = refl
timed-found kind us vs timed c (IsTimed.timed {ts = ts} {c = d} {t = t} q) r =
    rw (
      same-kind kind,
      append_assoc ts (token.For ∷ (token.Time t ∷ [])) vs,
      condition-found ts d (token.For ∷ (token.Time t ∷ vs)) q Stops.at_for,
    ) refl

when-found : (vs : List RuleToken) (c : Items) → IsWhen vs c → when_at vs ≡ Some c
when-found vs c IsWhen.always = refl
when-found vs c (IsWhen.when {ts = ts} r) =
    let found : condition_at ts ≡ Some (c, []) =
    rw append-nil at (condition-found ts c [] r Stops.at_end) in rw found refl

drop-all : (ts : List RuleToken) → drop (length ts) ts ≡ []
drop-all [] = refl
drop-all (t ∷ ts) = drop-all ts

pub says-found : (ts : List RuleToken) (s : RuleStatement) → Spells ts s → statement_at ts ≡ Some s
says-found ts s Spells.blank = refl
says-found ts s (Spells.look {named = named} {ts = us} {c = c} is) =
    let found : fact_at named us ≡ Some (c, length us) =
    rw append-nil at (fact-found named us c [] is Ends.at_end) in rw (found, drop-all us) refl
says-found ts s (Spells.rule {kind = kind} {named = named} directions {us = us} {vs = vs}
    {timed = timed}
    {c = c} q r) =
    rw (
      ways-found directions (us ++ vs) (after-ways kind us vs timed c q r),
      timed-found kind us vs timed c q r,
      when-found vs c r,
    ) refl

-- ---- each statement that is found is one

-- what is done with what was found, if something was
pub record IsThen {A B : Type 0} (x : Option A) (f : A → Option B) (y : B) : Type 0 where
  pub found : A
  pub was : x ≡ Some found
  pub is : f found ≡ Some y

then-some : {A B : Type 0} (x : Option A) (f : A → Option B) (y : B) → (x >>= f) ≡ Some y
    → IsThen x f y
then-some None f y e = absurd cc
then-some (Some a) f y e = record { found = a; was = refl; is = e }

pub record IsMapped {A B : Type 0} (x : Option A) (f : A → B) (y : B) : Type 0 where
  pub found : A
  pub was : x ≡ Some found
  pub is : f found ≡ y

mapped-some : {A B : Type 0} (x : Option A) (f : A → B) (y : B) → option_map f x ≡ Some y
    → IsMapped x f y
mapped-some None f y e = absurd cc
mapped-some (Some a) f y e = record { found = a; was = refl; is = same_Some (f a) y e }

open-read : (ts : List RuleToken)
    → token.Open ∷ ts ≡ direction_tokens (directions_after_open ts).0
    ++ (directions_after_open ts).1
open-read [] = refl
open-read (token.Bar ∷ []) = refl
open-read (token.Bar ∷ (token.Close ∷ ts)) = refl
open-read (token.Bar ∷ (other ∷ ts)) = refl
open-read (other ∷ ts) = refl

close-read : (ts : List RuleToken)
    → token.Close ∷ ts ≡ direction_tokens (directions_after_close ts).0
    ++ (directions_after_close ts).1
close-read [] = refl
close-read (token.Bar ∷ []) = refl
close-read (token.Bar ∷ (token.Open ∷ ts)) = refl
close-read (token.Bar ∷ (other ∷ ts)) = refl
close-read (other ∷ ts) = refl

ways-read : (ts : List RuleToken) (x : Directions × List RuleToken) → directions_at ts ≡ Some x
    → ts ≡ direction_tokens x.0 ++ x.1
ways-read (token.Open ∷ ts) x e =
    open-read ts ∙ ap (λ (y : Directions × List RuleToken). direction_tokens y.0 ++ y.1)
    (same_Some (directions_after_open ts)
    x e)
ways-read (token.Close ∷ ts) x e =
    close-read ts ∙ ap (λ (y : Directions × List RuleToken). direction_tokens y.0 ++ y.1)
    (same_Some (directions_after_close
    ts) x e)
ways-read [] x e = absurd cc
ways-read (other ∷ ts) x e = absurd cc

behind-read : (c : Items) (ts : List RuleToken) (x : HeldCondition × List RuleToken)
    → time_after_condition c ts ≡ Some x
    → (x.0.condition ≡ c) × (ts ≡ token.For ∷ (token.Time x.0.time ∷ x.1))
behind-read c [] x e = absurd cc
behind-read c (token.For ∷ []) x e = absurd cc
behind-read c (token.For ∷ (token.Time t ∷ ts)) x e =
    let same : (record { condition = c; time = t }, ts) ≡ x = same_Some _ x e in (
      ap (λ (y : HeldCondition × List RuleToken). y.0.condition) (sym same),
      ap (λ (y : HeldCondition × List RuleToken). token.For ∷ (token.Time y.0.time ∷ y.1)) same,
    )
behind-read c (token.For ∷ (other ∷ ts)) x e = absurd cc
behind-read c (other ∷ ts) x e = absurd cc

-- a time at the front
pub record IsTimedAt (kind : RuleKind) (ts : List RuleToken) (timed : Option HeldCondition)
    (rest : List RuleToken)
    : Type 0 where
  pub front : List RuleToken
  pub is : IsTimed kind front timed
  pub tokens : ts ≡ front ++ rest

since-read : (kind : RuleKind) (ts : List RuleToken) (x : HeldCondition × List RuleToken)
    → held_condition_at ts ≡ Some x
    → IsTimedAt kind (token.Since kind ∷ ts) (Some x.0) x.1
since-read kind ts x e =
    let at = then-some (condition_at ts) (λ found. time_after_condition found.0 found.1) x e in
    let read = condition-read ts at.found.0 at.found.1 at.was in
    let time = behind-read at.found.0 at.found.1 x at.is in
    record {
      front = token.Since kind ∷ (read.front ++ (token.For ∷ (token.Time x.0.time ∷ [])));
      is = IsTimed.timed (subst (Reads condition read.front) (sym time.0) read.reads);
      tokens = ap (λ us. token.Since kind ∷ us)
          (read.tokens ∙ ap (λ us. read.front ++ us) time.1
          ∙ sym (append_assoc read.front (token.For ∷ (token.Time x.0.time ∷ [])) x.1));
    }

same-kind-is : (a b : RuleKind) → same_kind a b ≡ true → a ≡ b
same-kind-is Never Never e = refl
same-kind-is Always Always e = refl
same-kind-is Never Always e = absurd cc
same-kind-is Always Never e = absurd cc

since-timed : (kind which : RuleKind) (ts : List RuleToken)
    (x : Option HeldCondition × List RuleToken)
    → timed_at kind (token.Since which ∷ ts) ≡ Some x
    → IsTimedAt kind (token.Since which ∷ ts) x.0 x.1
since-timed kind which ts x e = by-kind (same_kind kind which) refl
  where
    by-kind : (v : Bool) → same_kind kind which ≡ v
        → IsTimedAt kind (token.Since which ∷ ts) x.0 x.1
    by-kind true f =
        let found : option_map (λ one. (Some one.0, one.1)) (held_condition_at ts) ≡ Some x =
        rw f at e in
        let at = mapped-some (held_condition_at ts) (λ one. (Some one.0, one.1)) x found in
        subst (λ (k : RuleKind). IsTimedAt kind (token.Since k ∷ ts) x.0 x.1) (same-kind-is kind
        which f)
        (subst (λ (y : Option HeldCondition × List RuleToken). IsTimedAt kind
        (token.Since kind ∷ ts) y.0
        y.1)
        at.is
        (since-read kind ts at.found at.was))
    by-kind false f = let none : None ≡ Some x = rw f at e in absurd cc

untimed-read : (kind : RuleKind) (ts : List RuleToken) (x : Option HeldCondition × List RuleToken)
    → (None, ts) ≡ x → IsTimedAt kind ts x.0 x.1
untimed-read kind ts x e =
    subst (λ (y : Option HeldCondition × List RuleToken). IsTimedAt kind ts y.0 y.1) e
    (record { front = []; is = IsTimed.untimed; tokens = refl })

timed-read : (kind : RuleKind) (ts : List RuleToken) (x : Option HeldCondition × List RuleToken)
    → timed_at kind ts ≡ Some x → IsTimedAt kind ts x.0 x.1
timed-read kind (token.Since which ∷ ts) x e = since-timed kind which ts x e
timed-read kind [] x e = untimed-read kind [] x (same_Some _ x e)
timed-read kind (other ∷ ts) x e = untimed-read kind (other ∷ ts) x (same_Some _ x e)

alone-is : (c : Items) (ts : List RuleToken) (d : Items) → only_items c ts ≡ Some d
    → (c ≡ d) × (ts ≡ [])
alone-is c [] d e = (same_Some c d e, refl)
alone-is c (t ∷ ts) d e = absurd cc

when-read : (ts : List RuleToken) (c : Items) → when_at ts ≡ Some c → IsWhen ts c
when-read [] c e = subst (IsWhen []) (same_Some _ c e) IsWhen.always
when-read (token.When ∷ ts) c e =
    let at = then-some (condition_at ts) (λ found. only_items found.0 found.1) c e in
    let read = condition-read ts at.found.0 at.found.1 at.was in
    let whole = alone-is at.found.0 at.found.1 c at.is in
    let tokens : ts ≡ read.front = read.tokens ∙ ap (λ us. read.front ++ us) whole.1
    ∙ append-nil read.front in
    subst (λ (us : List RuleToken). IsWhen (token.When ∷ us) c) (sym tokens)
    (IsWhen.when (subst (Reads condition read.front) whole.0 read.reads))
when-read (other ∷ ts) c e = absurd cc

whole-fact : (ts : List RuleToken) (k : ℕ) → drop k ts ≡ [] → take k ts ≡ ts
whole-fact [] zero e = refl
whole-fact [] (suc k) e = refl
whole-fact (t ∷ ts) zero e = sym e
whole-fact (t ∷ ts) (suc k) e = ap (λ us. t ∷ us) (whole-fact ts k e)

looks-read : (named : NamedObject) (ts : List RuleToken) (s : RuleStatement)
    → looks_at named ts ≡ Some s
    → Spells (token.Look ∷ (token.Name named ∷ ts)) s
looks-read named ts s e =
    let x = fact_at named ts >>= λ (taken : ReadItems). only_items taken.0 (drop taken.1 ts) in
    let looks = mapped-some x Looks s e in
    let at =
    then-some (fact_at named ts) (λ (taken : ReadItems). only_items taken.0 (drop taken.1 ts))
    looks.found looks.was in
    let whole = alone-is at.found.0 (drop at.found.1 ts) looks.found at.is in
    let is : IsFact named ts at.found.0 =
    subst (λ (us : List RuleToken). IsFact named us at.found.0) (whole-fact ts at.found.1 whole.1)
    (fact-read named ts at.found at.was) in
    subst (Spells (token.Look ∷ (token.Name named ∷ ts))) (ap Looks whole.0 ∙ looks.is)
    (Spells.look is)

rule-says : (kind : RuleKind) (named : NamedObject) (ts : List RuleToken) (s : RuleStatement)
    (directions : Directions)
    (timed : Option HeldCondition) (when : Items) (us vs : List RuleToken)
    → ts ≡ direction_tokens directions ++ (us ++ vs)
    → IsTimed kind us timed → IsWhen vs when
    → Rule (record {
      kind = kind;
      named = named;
      directions = directions;
      timed = timed;
      when = when;
    }) ≡ s
    → Spells (token.Kind kind ∷ (token.Name named ∷ ts)) s
rule-says kind named ts s directions timed when us vs p q r e =
    rw p (subst
    (Spells (token.Kind kind ∷ (token.Name named ∷ (direction_tokens directions ++ (us ++ vs))))) e
    (Spells.rule directions q r))

rule-read : (kind : RuleKind) (named : NamedObject) (ts : List RuleToken) (s : RuleStatement)
    → rule_at kind named ts ≡ Some s → Spells (token.Kind kind ∷ (token.Name named ∷ ts)) s
rule-read kind named ts s e =
    let said =
    λ (directions : Directions × List RuleToken) (timed : Option HeldCondition × List RuleToken)
    (when : Items).
    Rule (record {
      kind = kind;
      named = named;
      directions = directions.0;
      timed = timed.0;
      when = when;
    }) in
    let w = then-some (directions_at ts) (λ (directions : Directions × List RuleToken).
    timed_at kind directions.1 >>= λ timed. option_map (said directions timed) (when_at timed.1)) s
    e in
    let t = then-some (timed_at kind w.found.1) (λ (timed : Option HeldCondition × List RuleToken).
    option_map (said w.found timed) (when_at timed.1)) s w.is in
    let m = mapped-some (when_at t.found.1) (said w.found t.found) s t.is in
    let timed = timed-read kind w.found.1 t.found t.was in
    rule-says kind named ts s w.found.0 t.found.0 m.found timed.front t.found.1
    (ways-read ts w.found w.was ∙ ap (λ us. direction_tokens w.found.0 ++ us) timed.tokens) timed.is
    (when-read t.found.1 m.found m.was) m.is

pub says-read : (ts : List RuleToken) (s : RuleStatement) → statement_at ts ≡ Some s → Spells ts s
says-read [] s e = subst (Spells []) (same_Some _ s e) Spells.blank
says-read (token.Look ∷ []) s e = absurd cc
says-read (token.Look ∷ (token.Name named ∷ ts)) s e = looks-read named ts s e
says-read (token.Look ∷ (other ∷ ts)) s e = absurd cc
says-read (token.Kind kind ∷ []) s e = absurd cc
says-read (token.Kind kind ∷ (token.Name named ∷ ts)) s e = rule-read kind named ts s e
says-read (token.Kind kind ∷ (other ∷ ts)) s e = absurd cc
says-read (other ∷ ts) s e = absurd cc
