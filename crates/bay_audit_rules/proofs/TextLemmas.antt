-- Lemmas on what a line and a text are read as.
use Rattle.std.proofs.Common.{◌≡◌, ◌⊎◌, inl, inr, ℕ, ◌+◌, ◌<◌, ◌≤◌, true, false, List, [], ◌∷◌, ◌++◌, length, drop, append_assoc, Bor, Option, Some, None, option_map, Result, Ok, Err, refl, sym, ap, ◌∙◌, subst, arith}
use Rattle.std.proofs.lemmas.Bool.Decides.{nat_tests}
use Rattle.std.proofs.lemmas.List.{append-nil, length-append}
use Rattle.std.specs.Bool.{◌==◌}
use Rattle.bay_base.specs.Options.{◌>>=◌}
use Rattle.bay_config.specs.declared.bay.Bay.{Bay}
use Rattle.bay_audit_rules.specs.declared.fault.RuleFault.{RuleFault}
use Rattle.bay_audit_rules.specs.declared.fault.RuleFault.TheVariants.{NoRule, OutOfMemory, TooMany}
use Rattle.bay_audit_rules.specs.declared.rule.Rule.{Rule}
use Rattle.bay_audit_rules.specs.declared.statement.RuleStatement.{RuleStatement}
use Rattle.bay_audit_rules.specs.declared.statement.RuleStatement.TheVariants.{Looks}
use Rattle.bay_audit_rules.specs.declared.token.NamedObject.{NamedObject}
use Rattle.bay_audit_rules.specs.declared.token.RuleToken.{RuleToken}
use Rattle.bay_audit_rules.specs.Facts.{Items, ◌⊕◌}
use Rattle.bay_audit_rules.specs.Grammar.{Spells}
use Rattle.bay_audit_rules.specs.Meaning.{AllRead, TextRead, prepend_rules, line_tokens, TokensRead, LinesRead, LineRead}
use Rattle.bay_audit_rules.specs.Reading.{Pushes, AppendsRules}
use Rattle.bay_audit_rules.specs.Running.{ReadItems, fact_at}
use Rattle.bay_audit_rules.specs.TokenParsing.{only_items, looks_at, statement_at}
use Rattle.bay_audit_rules.specs.Advances.{ConsumedIf}
use Rattle.bay_audit_rules.proofs.ConditionLemmas.{none-plus}
use Rattle.bay_audit_rules.proofs.TokenParsingLemmas.{says-found}

-- values that are to be looked at, in an empty draft
looks-took : (named : NamedObject) (ts : List RuleToken) (old new : Items)
    (rest : Bor (List RuleToken))
    → old ≡ Some [] → ConsumedIf (fact_at named ts) old new ts (Some rest)
    → looks_at named ts ≡ option_map Looks (only_items new rest.now)
looks-took named ts old new rest empty took = by-taken (fact_at named ts) took
  where
    by-taken : (x : Option ReadItems) → ConsumedIf x old new ts (Some rest)
        → option_map Looks (x >>= λ taken. only_items taken.0 (drop taken.1 ts))
        ≡ option_map Looks (only_items new rest.now)
    by-taken None t = absurd t
    by-taken (Some taken) t =
        let items : new ≡ taken.0 = t.items ∙ ap (λ x. x ⊕ taken.0) empty ∙ none-plus taken.0 in
        rw (items, t.rest) refl

alone-empty : (c : Items) (ts : List RuleToken) → (length ts == 0) ≡ true → only_items c ts ≡ Some c
alone-empty c [] e = refl
alone-empty c (t ∷ ts) e = absurd (grind (arith, nat_tests))

alone-more : (c : Items) (ts : List RuleToken) → (length ts == 0) ≡ false → only_items c ts ≡ None
alone-more c [] e = absurd (grind (arith, nat_tests))
alone-more c (t ∷ ts) e = refl

pub looks-some : (named : NamedObject) (ts : List RuleToken) (old new : Items)
    (x : Option (Bor (List RuleToken)))
    (rest : Bor (List RuleToken)) → old ≡ Some [] → ConsumedIf (fact_at named ts) old new ts x
    → x ≡ Some rest → (length rest.now == 0) ≡ true → looks_at named ts ≡ Some (Looks new)
looks-some named ts old new x rest empty took is e =
    looks-took named ts old new rest empty (rw is at took)
    ∙ ap (option_map Looks) (alone-empty new rest.now e)

pub looks-none : (named : NamedObject) (ts : List RuleToken) (old new : Items)
    (x : Option (Bor (List RuleToken)))
    (rest : Bor (List RuleToken)) → old ≡ Some [] → ConsumedIf (fact_at named ts) old new ts x
    → x ≡ Some rest → (length rest.now == 0) ≡ false → looks_at named ts ≡ None
looks-none named ts old new x rest empty took is e =
    looks-took named ts old new rest empty (rw is at took)
    ∙ ap (option_map Looks) (alone-more new rest.now e)

-- no statement is found where there is none
pub says-none : (ts : List RuleToken) → statement_at ts ≡ None → (s : RuleStatement)
    → ¬ (Spells ts s)
says-none ts e s says = let both : None ≡ Some s = sym e ∙ says-found ts s says in absurd cc

-- rules that were not appended, and rules that were
pub pushes-none : (x : Option (List Rule)) (old new : List Rule) → Pushes x old new false → x ≡ None
pushes-none None old new h = refl
pushes-none (Some rs) old new h = absurd h

pub record Pushed (x : Option (List Rule)) (old new : List Rule) : Type 0 where
  pub rules : List Rule
  pub was : x ≡ Some rules
  pub is : new ≡ old ++ rules

pub pushes-some : (x : Option (List Rule)) (old new : List Rule) → Pushes x old new true
    → Pushed x old new
pushes-some None old new h = absurd h
pushes-some (Some rs) old new h = record { rules = rs; was = refl; is = h }

-- ---- lines

pub onto-twice : (rs qs : List Rule) (r : Result (List Rule) RuleFault)
    → prepend_rules rs (prepend_rules qs r) ≡ prepend_rules (rs ++ qs) r
onto-twice rs qs (Ok more) = ap Ok (sym (append_assoc rs qs more))
onto-twice rs qs (Err fault) = refl

-- what is read behind some rules is read behind all
abbrev pub Goes : Bay → ℕ → List Rule → List (List ℕ) → (Result (List Rule) RuleFault → Type 0)
    → Type 0
Goes bay line rules lines IsAnswer =
    (r : Result (List Rule) RuleFault) → LinesRead bay line (length rules) lines r
    → IsAnswer (prepend_rules rules r)

pub goes-refused : (bay : Bay) (line : ℕ) (rules : List Rule) (first : List ℕ)
    (lines more : List (List ℕ)) (IsAnswer : Result (List Rule) RuleFault → Type 0)
    (fault : RuleFault) → lines ≡ first ∷ more → Goes bay line rules lines IsAnswer
    → LineRead bay line first (Err fault) → IsAnswer (Err fault)
goes-refused bay line rules first lines more IsAnswer fault p goes read =
    goes (Err fault) (rw p (LinesRead.refused read))

pub goes-many : (bay : Bay) (line : ℕ) (rules rs new : List Rule) (first : List ℕ)
    (lines more : List (List ℕ)) (IsAnswer : Result (List Rule) RuleFault → Type 0)
    → lines ≡ first ∷ more → Goes bay line rules lines IsAnswer → LineRead bay line first (Ok rs)
    → new ≡ rules ++ rs → 1000 < length new → IsAnswer (Err (TooMany line))
goes-many bay line rules rs new first lines more IsAnswer p goes read is many =
    let over : 1000 < length rules + length rs =
    subst (λ n. 1000 < n) (ap length is ∙ length-append rules rs) many in
    goes (Err (TooMany line)) (rw p (LinesRead.too_many read over))

pub goes-on : (bay : Bay) (line : ℕ) (rules rs new : List Rule) (first : List ℕ)
    (lines more : List (List ℕ)) (IsAnswer : Result (List Rule) RuleFault → Type 0)
    → lines ≡ first ∷ more → Goes bay line rules lines IsAnswer → LineRead bay line first (Ok rs)
    → new ≡ rules ++ rs → length new ≤ 1000 → Goes bay (line + 1) new more IsAnswer
goes-on bay line rules rs new first lines more IsAnswer p goes read is few = λ r next.
    let size : length new ≡ length rules + length rs = ap length is ∙ length-append rules rs in
    let within : length rules + length rs ≤ 1000 = subst (λ n. n ≤ 1000) size few in
    let behind : LinesRead bay (line + 1) (length rules + length rs) more r =
    subst (λ n. LinesRead bay (line + 1) n more r) size next in
    let all : IsAnswer (prepend_rules rules (prepend_rules rs r)) =
    goes (prepend_rules rs r) (rw p (LinesRead.next read within behind)) in
    subst IsAnswer (onto-twice rules rs r ∙ ap (λ qs. prepend_rules qs r) (sym is)) all

pub goes-done : (bay : Bay) (line : ℕ) (rules : List Rule) (lines : List (List ℕ))
    (IsAnswer : Result (List Rule) RuleFault → Type 0) → lines ≡ []
    → Goes bay line rules lines IsAnswer → IsAnswer (Ok rules)
goes-done bay line rules lines IsAnswer p goes =
    subst IsAnswer (ap Ok (append-nil rules)) (goes (Ok []) (rw p LinesRead.done))

-- the tokens of a line are what the line says
pub tells-line : (bay : Bay) (line : ℕ) (text : List ℕ) (ts us : List RuleToken)
    (old new : List Rule)
    (r : Result Unit RuleFault) → us ≡ ts → Some ts ≡ line_tokens bay text
    → AppendsRules (TokensRead line us) old new r → AppendsRules (LineRead bay line text) old new r
tells-line bay line text ts us old new (Ok x) same is told = (
  told.0,
  LineRead.tokens (sym is) (subst (λ vs. TokensRead line vs (Ok told.0)) same told.1),
  told.2,
)
tells-line bay line text ts us old new (Err fault) same is (inl memory) = inl memory
tells-line bay line text ts us old new (Err fault) same is (inr read) =
    inr (LineRead.tokens (sym is) (subst (λ vs. TokensRead line vs (Err fault)) same read))

pub goes-err : (bay : Bay) (line : ℕ) (rules new : List Rule) (first : List ℕ)
    (lines more : List (List ℕ)) (IsAnswer : Result (List Rule) RuleFault → Type 0)
    (fault : RuleFault) → lines ≡ first ∷ more → Goes bay line rules lines IsAnswer
    → AppendsRules (LineRead bay line first) rules new (Err fault)
    → (fault ≡ OutOfMemory) ⊎ IsAnswer (Err fault)
goes-err bay line rules new first lines more IsAnswer fault p goes (inl memory) = inl memory
goes-err bay line rules new first lines more IsAnswer fault p goes (inr read) =
    inr (goes-refused bay line rules first lines more IsAnswer fault p goes read)

-- ---- the text

pub text-err : (bay : Bay) (text : List ℕ) (fault : RuleFault)
    → (fault ≡ OutOfMemory) ⊎ AllRead bay text (Err fault)
    → (fault ≡ OutOfMemory) ⊎ TextRead bay text (Err fault)
text-err bay text fault (inl memory) = inl memory
text-err bay text fault (inr read) = inr (record { all = Err fault; read = read; is = refl })

pub text-none : (bay : Bay) (text : List ℕ) (rules : List Rule) → AllRead bay text (Ok rules)
    → (length rules == 0) ≡ true → TextRead bay text (Err NoRule)
text-none bay text [] read e = record { all = Ok []; read = read; is = refl }
text-none bay text (rule ∷ rules) read e = absurd (grind (arith, nat_tests))

pub text-some : (bay : Bay) (text : List ℕ) (rules : List Rule) → AllRead bay text (Ok rules)
    → (length rules == 0) ≡ false → TextRead bay text (Ok rules)
text-some bay text [] read e = absurd (grind (arith, nat_tests))
text-some bay text (rule ∷ rules) read e =
    record { all = Ok (rule ∷ rules); read = read; is = refl }
