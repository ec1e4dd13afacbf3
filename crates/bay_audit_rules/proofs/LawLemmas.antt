-- The laws of what a text means.
use Rattle.std.proofs.Common.{◌≡◌, ℕ, ℤ, ◌+◌, ◌≤◌, Bool, true, false, not, List, [], ◌∷◌, ◌++◌, length, Option, Some, None, option_map, option_and_then, if◌then◌else◌, subst, Result, Ok, Err, refl, sym, ap, ◌∙◌, arith}
use Rattle.std.proofs.lemmas.List.{append-nil}
use Rattle.std.specs.List.{list_any, slice_split}
use Rattle.bay_config.specs.declared.bay.Bay.{Bay}
use Rattle.bay_base.specs.declared.position.Dbpos.{Dbpos}
use Rattle.bay_audit_rules.specs.declared.fault.RuleFault.{RuleFault}
use Rattle.bay_audit_rules.specs.declared.fault.RuleFault.TheVariants.{BadLine, UnknownName, BadValue, TooMany}
use Rattle.bay_audit_rules.specs.declared.rule.ConditionItem.{ConditionItem}
use Rattle.bay_audit_rules.specs.declared.rule.ConditionItem.TheVariants as items
use Rattle.bay_audit_rules.specs.declared.rule.Relation.{Relation}
use Rattle.bay_audit_rules.specs.declared.rule.Relation.TheVariants.{Equal}
use Rattle.bay_audit_rules.specs.declared.rule.Rule.{Rule}
use Rattle.bay_audit_rules.specs.declared.statement.RuleStatement.{RuleStatement}
use Rattle.bay_audit_rules.specs.declared.token.NamedObject.{NamedObject}
use Rattle.bay_audit_rules.specs.declared.token.Measurand.{Measurand}
use Rattle.bay_audit_rules.specs.declared.token.Measurand.TheVariants as measurands
use Rattle.bay_audit_rules.specs.declared.token.RuleToken.{RuleToken}
use Rattle.bay_audit_rules.specs.declared.token.TestValue.{TestValue}
use Rattle.bay_audit_rules.specs.declared.token.TestValue.TheVariants.{Position, Truth, Number}
use Rattle.bay_audit_rules.specs.Facts.{Items, ◌⊕◌, item, negation, input_items, measure_items, number_items, truth_of, value_items, relation_items}
use Rattle.bay_audit_rules.specs.Grammar.{AreValues, IsFact, Level, operand, conjunction, condition, Reads, Spells}
use Rattle.bay_audit_rules.specs.Meaning.{TokensRead, LineRead, LinesRead, prepend_rules, some_rule, is_unknown, is_deep, rules_of, is_line_end}
use Rattle.bay_audit_rules.specs.Laws.{OneReading, IsCondition, AreConditions, AreTruths}
use Rattle.bay_audit_rules.specs.Process.{Process, after_item, after_items, top, holds}
use Rattle.bay_audit_rules.proofs.ConditionLemmas.{plus-four}
use Rattle.bay_audit_rules.proofs.TokenParsingLemmas.{says-found}

-- ---- truths

after-append : (p : Process) (c d : List ConditionItem) (stack : List Bool)
    → after_items p (c ++ d) stack ≡ after_items p d (after_items p c stack)
after-append p [] d stack = refl
after-append p (i ∷ c) d stack = after-append p c d (after_item p i stack)

after-two : (p : Process) (c d e : List ConditionItem) (stack : List Bool) → IsCondition c
    → IsCondition d
    → after_items p ((c ++ d) ++ e) stack ≡ after_items p e (holds d p ∷ (holds c p ∷ stack))
after-two p c d e stack is also =
    after-append p (c ++ d) e stack
    ∙ ap (after_items p e) (after-append p c d stack ∙ ap (after_items p d) (is p stack)
    ∙ also p (holds c p ∷ stack))

pub are-truths : AreTruths
are-truths p c d is also = record {
  negated = ap top (after-append p c (items.Not ∷ []) [] ∙ ap (after_items p (items.Not ∷ [])) (is
      p []));
  both = ap top (after-two p c d (items.And ∷ []) [] is also);
  either = ap top (after-two p c d (items.Or ∷ []) [] is also);
}

-- items, if there are any, are a condition
abbrev pub IsSound : Items → Type 0
IsSound None = Unit {0}
IsSound (Some c) = IsCondition c

not-sound : (c : Items) → IsSound c → IsSound (c ⊕ item items.Not)
not-sound None is = tt
not-sound (Some c) is = λ p stack.
    after-append p c (items.Not ∷ []) stack ∙ ap (after_items p (items.Not ∷ [])) (is p stack)
    ∙ ap (λ x. x ∷ stack) (sym (are-truths p c c is is).negated)

and-sound : (c d : Items) → IsSound c → IsSound d → IsSound ((c ⊕ d) ⊕ item items.And)
and-sound None d is also = tt
and-sound (Some c) None is also = tt
and-sound (Some c) (Some d) is also = λ p stack.
    after-two p c d (items.And ∷ []) stack is also
    ∙ ap (λ x. x ∷ stack) (sym (are-truths p c d is also).both)

or-sound : (c d : Items) → IsSound c → IsSound d → IsSound ((c ⊕ d) ⊕ item items.Or)
or-sound None d is also = tt
or-sound (Some c) None is also = tt
or-sound (Some c) (Some d) is also = λ p stack.
    after-two p c d (items.Or ∷ []) stack is also
    ∙ ap (λ x. x ∷ stack) (sym (are-truths p c d is also).either)

plus-none : (c : Items) → c ⊕ Some [] ≡ c
plus-none None = refl
plus-none (Some c) = ap Some (append-nil c)

negation-sound : (c : Items) (negated : Bool) → IsSound c → IsSound (c ⊕ negation negated)
negation-sound c false is = rw (plus-none c) is
negation-sound c true is = not-sound c is

switch-sound : (switch : Option ℕ) (position : Dbpos)
    → IsSound (option_map (λ k. items.Position k position ∷ []) switch)
switch-sound None position = tt
switch-sound (Some k) position = λ p stack. refl

input-sound : (measurand : Option Measurand) (truth : Bool) → IsSound (input_items measurand truth)
input-sound (Some (measurands.Input input)) truth =
    negation-sound (item (items.Input input)) (not truth) (λ p stack. refl)
input-sound (Some (measurands.Measure meter field)) truth = tt
input-sound None truth = tt

measure-sound : (measurand : Option Measurand) (relation : Relation) (n : ℤ)
    → IsSound (measure_items measurand relation n)
measure-sound (Some (measurands.Measure meter field)) relation n = λ p stack. refl
measure-sound (Some (measurands.Input input)) relation n = tt
measure-sound None relation n = tt

truth-sound : (measurand : Option Measurand) (truth : Option Bool)
    → IsSound (option_and_then (input_items measurand) truth)
truth-sound measurand None = tt
truth-sound measurand (Some truth) = input-sound measurand truth

number-sound : (measurand : Option Measurand) (n : ℤ) → IsSound (number_items measurand n)
number-sound (Some (measurands.Input input)) n =
    truth-sound (Some (measurands.Input input)) (truth_of n)
number-sound (Some (measurands.Measure meter field)) n =
    measure-sound (Some (measurands.Measure meter field)) Equal n
number-sound None n = tt

value-sound : (named : NamedObject) (value : TestValue) → IsSound (value_items named value)
value-sound named (Position position) = switch-sound named.switch position
value-sound named (Truth truth) = input-sound named.measurand truth
value-sound named (Number (Some n)) = number-sound named.measurand n
value-sound named (Number None) = tt

relation-sound : (named : NamedObject) (relation : Relation) (n : Option ℤ)
    → IsSound (relation_items named relation n)
relation-sound named relation None = tt
relation-sound named relation (Some n) = measure-sound named.measurand relation n

values-sound : (named : NamedObject) (ts : List RuleToken) (c a : Items) → IsSound a
    → AreValues named ts c
    → IsSound (a ⊕ c)
values-sound named ts c a is AreValues.none = rw (plus-none a) is
values-sound named ts c a is (AreValues.bar {value = value} {ts = us} {c = d} e more) =
    subst IsSound (plus-four a (value_items named value) (item items.Or) d)
    (values-sound named us d ((a ⊕ value_items named value) ⊕ item items.Or)
    (or-sound a (value_items named value) is (value-sound named value)) more)

fact-sound : (named : NamedObject) (ts : List RuleToken) (c : Items) → IsFact named ts c → IsSound c
fact-sound named ts c IsFact.alone = value-sound named (Truth true)
fact-sound named ts c (IsFact.valued {negated = negated} t {value = value} {ts = us} {c = d} told e
    more) =
    negation-sound (value_items named value ⊕ d) negated
    (values-sound named us d (value_items named value) (value-sound named value) more)
fact-sound named ts c (IsFact.related {relation = relation} {n = n}) =
    relation-sound named relation n

reads-sound : (level : Level) (ts : List RuleToken) (c : Items) → Reads level ts c → IsSound c
reads-sound level ts c (Reads.fact {named = named} {ts = us} is) = fact-sound named us c is
reads-sound level ts c (Reads.not {ts = us} {c = d} r) = not-sound d (reads-sound operand us d r)
reads-sound level ts c (Reads.group {ts = us} r) = reads-sound condition us c r
reads-sound level ts c (Reads.one r) = reads-sound operand ts c r
reads-sound level ts c (Reads.and {ts = us} {us = vs} {c = d} {d = e} r q) =
    and-sound d e (reads-sound conjunction us d r) (reads-sound operand vs e q)
reads-sound level ts c (Reads.all r) = reads-sound conjunction ts c r
reads-sound level ts c (Reads.or {ts = us} {us = vs} {c = d} {d = e} r q) =
    or-sound d e (reads-sound condition us d r) (reads-sound conjunction vs e q)

pub are-conditions : AreConditions
are-conditions level ts c r = reads-sound level ts (Some c) r

-- ---- one reading

says-once : (ts : List RuleToken) (s t : RuleStatement) → Spells ts s → Spells ts t → s ≡ t
says-once ts s t p q =
    let both : Some s ≡ Some t = sym (says-found ts s p) ∙ says-found ts t q in cc

-- what is read of tokens that say something
abbrev pub Answer : Type 0
Answer = Result (List Rule) RuleFault

abbrev pub judged_rules : ℕ → List RuleToken → Option (List Rule) → Answer
judged_rules line ts None = Err (BadValue line)
judged_rules line ts (Some rules) = if is_deep 0 ts then Err (TooMany line) else Ok rules

abbrev pub judged : ℕ → List RuleToken → RuleStatement → Answer
judged line ts s =
    if list_any is_unknown ts then Err (UnknownName line) else judged_rules line ts (rules_of line
    s)

pub data Seen (line : ℕ) (ts : List RuleToken) (r : Answer) : Type 0 where
  nothing : ((s : RuleStatement) → ¬ (Spells ts s)) → r ≡ Err (BadLine line) → Seen line ts r
  said : (s : RuleStatement) → Spells ts s → r ≡ judged line ts s → Seen line ts r

seen : (line : ℕ) (ts : List RuleToken) (r : Answer) → TokensRead line ts r → Seen line ts r
seen line ts r (TokensRead.bad_line no-rule) = nothing no-rule refl
seen line ts r (TokensRead.unknown_name {s = s} says e) = said s says (rw e refl)
seen line ts r (TokensRead.bad_value {s = s} says e f) = said s says (rw (e, f) refl)
seen line ts r (TokensRead.too_deep {s = s} says e f g) = said s says (rw (e, f, g) refl)
seen line ts r (TokensRead.rules {s = s} says e f g) = said s says (rw (e, f, g) refl)

seen-once : (line : ℕ) (ts : List RuleToken) (r q : Answer) → Seen line ts r → Seen line ts q
    → r ≡ q
seen-once line ts r q (nothing no-rule e) (nothing other f) = e ∙ sym f
seen-once line ts r q (nothing no-rule e) (said t says f) = absurd (no-rule t says)
seen-once line ts r q (said s says e) (nothing no-rule f) = absurd (no-rule s says)
seen-once line ts r q (said s says e) (said t also f) =
    e ∙ ap (judged line ts) (says-once ts s t says also) ∙ sym f

line-once : (bay : Bay) (line : ℕ) (text : List ℕ) (r q : Answer) → LineRead bay line text r
    → LineRead bay line text q → r ≡ q
line-once bay line text r q (LineRead.bad_word e) (LineRead.bad_word f) = refl
line-once bay line text r q (LineRead.bad_word e) (LineRead.tokens {ts = us} f read) =
    let both : None ≡ Some us = sym e ∙ f in absurd cc
line-once bay line text r q (LineRead.tokens {ts = ts} e read) (LineRead.bad_word f) =
    let both : Some ts ≡ None = sym e ∙ f in absurd cc
line-once bay line text r q (LineRead.tokens {ts = ts} e read) (LineRead.tokens {ts = us} f also) =
    let both : Some ts ≡ Some us = sym e ∙ f in
    let same : ts ≡ us = cc in
    seen-once line us r q (seen line us r (subst (λ vs. TokensRead line vs r) same read))
    (seen line us q also)

lines-once : (bay : Bay) (line count : ℕ) (lines : List (List ℕ)) (r q : Answer)
    → LinesRead bay line count lines r → LinesRead bay line count lines q → r ≡ q
lines-once bay line count lines r q LinesRead.done LinesRead.done = refl
lines-once bay line count lines r q (LinesRead.refused {text = text} a) (LinesRead.refused b) =
    line-once bay line text r q a b
lines-once bay line count lines r q (LinesRead.refused {text = text} {fault = f} a)
    (LinesRead.too_many {rules = rs} b over) =
    let both : Err f ≡ Ok rs = line-once bay line text (Err f) (Ok rs) a b in absurd cc
lines-once bay line count lines r q (LinesRead.refused {text = text} {fault = f} a)
    (LinesRead.next {rules = rs} b few more) =
    let both : Err f ≡ Ok rs = line-once bay line text (Err f) (Ok rs) a b in absurd cc
lines-once bay line count lines r q (LinesRead.too_many {text = text} {rules = rs} a over)
    (LinesRead.refused {fault = f} b) =
    let both : Ok rs ≡ Err f = line-once bay line text (Ok rs) (Err f) a b in absurd cc
lines-once bay line count lines r q (LinesRead.too_many a over) (LinesRead.too_many b above) = refl
lines-once bay line count lines r q (LinesRead.too_many {text = text} {rules = rs} a over)
    (LinesRead.next {rules = qs} b few more) =
    let both : Ok rs ≡ Ok qs = line-once bay line text (Ok rs) (Ok qs) a b in
    let same : rs ≡ qs = cc in
    let within : count + length rs ≤ 1000 = subst (λ (xs : List Rule). count + length xs ≤ 1000)
    (sym same) few in
    absurd (omega (arith, over, within))
lines-once bay line count lines r q (LinesRead.next {text = text} {rules = rs} a few more)
    (LinesRead.refused {fault = f} b) =
    let both : Ok rs ≡ Err f = line-once bay line text (Ok rs) (Err f) a b in absurd cc
lines-once bay line count lines r q (LinesRead.next {text = text} {rules = rs} a few more)
    (LinesRead.too_many {rules = qs} b over) =
    let both : Ok rs ≡ Ok qs = line-once bay line text (Ok rs) (Ok qs) a b in
    let same : rs ≡ qs = cc in
    let within : count + length qs ≤ 1000 = subst (λ (xs : List Rule). count + length xs ≤ 1000)
    same few in
    absurd (omega (arith, over, within))
lines-once bay line count lines r q (LinesRead.next {text = text} {rest = rest} {rules = rs} {r =
    s} a few more)
    (LinesRead.next {rules = qs} {r = t} b small also) =
    let both : Ok rs ≡ Ok qs = line-once bay line text (Ok rs) (Ok qs) a b in
    let same : rs ≡ qs = cc in
    let here = subst (λ (xs : List Rule). LinesRead bay (line + 1) (count + length xs) rest s) same
    more in
    ap (prepend_rules rs) (lines-once bay (line + 1) (count + length qs) rest s t here also)
    ∙ ap (λ (xs : List Rule). prepend_rules xs t) same

pub one-reading : OneReading
one-reading bay text r q p o =
    p.is
    ∙ ap some_rule (lines-once bay 1 0 (slice_split is_line_end text) p.all o.all p.read o.read)
    ∙ sym o.is
