-- A rule that is read is one of a switch of the bay.
use Rattle.std.proofs.Common.{◌≡◌, ℕ, ℤ, zero, suc, ◌+◌, ◌<◌, Bool, true, false, cond, List, [], ◌∷◌, ◌++◌, length, map, find, position, Option, Some, None, option_map, Result, Ok, Err, refl, sym, subst}
use Rattle.std.specs.Prelude.{IfOk, IfSome, slice_get}
use Rattle.std.specs.List.{before_first, slice_split}
use Rattle.std.proofs.lemmas.List.Quantifiers.{position-Some}
use Rattle.bay_base.specs.Options.{◌>>=◌}
use Rattle.bay_base.specs.Names.{same_name}
use Rattle.bay_config.specs.declared.bay.Bay.{Bay}
use Rattle.bay_base.specs.declared.switch.Operation.{Operation}
use Rattle.bay_base.specs.declared.switch.Operation.TheVariants as operations
use Rattle.bay_nodes.specs.declared.switch.Switch.{Switch}
use Rattle.bay_audit_rules.specs.Grammar.{Spells}
use Rattle.bay_audit_rules.specs.Meaning.{LineRead, LinesRead, TextRead, TokensRead, is_blank_piece, is_comment, is_line_end, line_tokens, prepend_rules, operations_of, rule_of, rules_of, some_rule, template_of, timing_of, tokens_of}
use Rattle.bay_audit_rules.specs.Numbers.{number_in, time_in}
use Rattle.bay_audit_rules.specs.Pieces.{pieces}
use Rattle.bay_audit_rules.specs.Words.{is_name, word_or_number, number_or_time, named_in, time_or_name, token_of, reserved_token, words}
use Rattle.bay_audit_rules.specs.declared.fault.RuleFault.{RuleFault}
use Rattle.bay_audit_rules.specs.declared.pieces.Cut.TheVariants.{Line}
use Rattle.bay_audit_rules.specs.declared.rule.Rule.{Rule}
use Rattle.bay_audit_rules.specs.declared.rule.Timing.{Timing}
use Rattle.bay_audit_rules.specs.declared.statement.RuleLine.{RuleLine}
use Rattle.bay_audit_rules.specs.declared.statement.RuleStatement.{RuleStatement}
use Rattle.bay_audit_rules.specs.declared.token.RuleToken.{RuleToken}
use Rattle.bay_audit_rules.specs.declared.token.RuleToken.TheVariants as token
use Rattle.cmd_audit_laws.proofs.OptionLemmas.{cond-some, map-some}

-- a switch, if one is named, is one of so many
abbrev IsThere : ℕ → Option ℕ → Type 0
IsThere count o = IfSome o (λ k. k < count)

abbrev TokenFits : ℕ → RuleToken → Type 0
TokenFits count (token.Name named) = IsThere count named.switch
TokenFits count t = Unit {0}

abbrev TokensFit : ℕ → List RuleToken → Type 0
TokensFit count [] = Unit {0}
TokensFit count (t ∷ ts) = TokenFits count t × TokensFit count ts

-- each rule is one of a switch of so many
abbrev AreThere : ℕ → List Rule → Type 0
AreThere count [] = Unit {0}
AreThere count (rule ∷ rules) = (rule.switch < count) × AreThere count rules

-- ---- tokens

position-there : {X : Type 0} (p : X → Bool) (xs : List X) → IsThere (length xs) (position p xs)
position-there p [] = tt
position-there p (x ∷ xs) = by-place (position p (x ∷ xs)) refl
  where
    by-place : (o : Option ℕ) → position p (x ∷ xs) ≡ o → IsThere (length (x ∷ xs)) o
    by-place None e = tt
    by-place (Some k) e = (position-Some p (x ∷ xs) k x e).0

module _ (bay : Bay) where
  abbrev count : ℕ
  count = length bay.switches

  abbrev Fits : RuleToken → Type 0
  Fits t = TokenFits count t

  -- no word is a name
  abbrev AreWords : List (List ℕ × RuleToken) → Type 0
  AreWords [] = Unit {0}
  AreWords (entry ∷ entries) = Fits entry.1 × AreWords entries

  found-word : (test : List ℕ × RuleToken → Bool) (entries : List (List ℕ × RuleToken))
      → AreWords entries → IfSome (option_map (λ entry. entry.1) (find test entries)) Fits
  found-word test [] h = tt
  found-word test (entry ∷ entries) h =
      by-test (find test entries) (found-word test entries h.1) (test entry)
    where
      by-test : (rest : Option (List ℕ × RuleToken))
          → IfSome (option_map (λ entry. entry.1) rest) Fits → (b : Bool)
          → IfSome (option_map (λ entry. entry.1) (cond b (Some entry) rest)) Fits
      by-test rest k true = h.0
      by-test rest k false = k

  are-words : AreWords words
  unfolding words
  are-words = search

  word-fits : (piece : List ℕ) → IfSome (reserved_token piece) Fits
  unfolding reserved_token
  word-fits piece = found-word (λ entry. same_name piece entry.0) words are-words

  token-fits : (piece : List ℕ) → IfSome (token_of bay piece) Fits
  token-fits piece = by-word (reserved_token piece) (word-fits piece)
    where
      by-time : (o : Option (Option ℕ)) → IfSome (time_or_name bay piece o) Fits
      by-time (Some time) = tt
      by-time None =
          cond-some Fits (is_name piece) (Some (token.Name (named_in bay piece))) None
          (position-there (λ (s : Switch). same_name piece s.id) bay.switches) tt

      by-word : (o : Option RuleToken) → IfSome o Fits → IfSome (word_or_number bay piece o) Fits
      by-word (Some t) h = h
      by-word None h = by-number (number_in piece)
        where
          by-number : (o : Option (Option ℤ)) → IfSome (number_or_time bay piece o) Fits
          by-number (Some n) = tt
          by-number None = by-time (time_in piece)

  tokens-fit : (ps : List (List ℕ)) → IfSome (tokens_of bay ps) (TokensFit count)
  tokens-fit [] = tt
  tokens-fit (p ∷ ps) =
      cond-some (TokensFit count) (is_blank_piece p) (tokens_of bay ps) _ (tokens-fit ps)
      (by-token (token_of bay p) (token-fits p) (tokens_of bay ps) (tokens-fit ps))
    where
      by-token : (o : Option RuleToken) → IfSome o Fits → (rest : Option (List RuleToken))
          → IfSome rest (TokensFit count)
          → IfSome (o >>= λ t. option_map (λ ts. t ∷ ts) rest) (TokensFit count)
      by-token None h rest k = tt
      by-token (Some t) h None k = tt
      by-token (Some t) h (Some ts) k = (h, k)

  line-fits : (line : List ℕ) → IfSome (line_tokens bay line) (TokensFit count)
  unfolding line_tokens
  line-fits line = tokens-fit (pieces Line (before_first is_comment line))

  -- ---- rules

  template-there : (line : ℕ) (written : RuleLine) → IsThere count written.named.switch
      → IfSome (template_of line written) (λ rule. rule.switch < count)
  template-there line written h = by-switch written.named.switch h
    where
      by-timing : (k : ℕ) → k < count → (o : Option (Option Timing))
          → IfSome (o >>= λ timed. option_map (λ when. record {
            line = line;
            kind = written.kind;
            switch = k;
            operation = operations.Open;
            when = when;
            timed = timed;
          }) written.when) (λ (rule : Rule). rule.switch < count)
      by-timing k less None = tt
      by-timing k less (Some timed) = map-some _ _ written.when (λ when. less)

      by-switch : (o : Option ℕ) → IsThere count o
          → IfSome (o >>= λ switch. timing_of written.timed
          >>= λ timed. option_map (λ when. record {
            line = line;
            kind = written.kind;
            switch = switch;
            operation = operations.Open;
            when = when;
            timed = timed;
          }) written.when) (λ (rule : Rule). rule.switch < count)
      by-switch None none = tt
      by-switch (Some k) less = by-timing k less (timing_of written.timed)

  ways-there : (rule : Rule) → rule.switch < count → (ways : List Operation)
      → AreThere count (map (rule_of rule) ways)
  ways-there rule less [] = tt
  ways-there rule less (way ∷ ways) = (less, ways-there rule less ways)

  said-there : (line : ℕ) (ts : List RuleToken) (s : RuleStatement) → Spells ts s
      → TokensFit count ts
      → IfSome (rules_of line s) (AreThere count)
  said-there line ts s Spells.blank h = tt
  said-there line ts s (Spells.look {c = c} fact) h = map-some (AreThere count) _ c (λ is. tt)
  said-there line ts s (Spells.rule {kind = kind} {named = named} ways {timed = timed} {c = c} a b)
      h =
      let written : RuleLine =
      record { kind = kind; named = named; directions = ways; timed = timed; when = c } in
      by-template (template_of line written) (template-there line written h.1.0)
    where
      by-template : (o : Option Rule) → IfSome o (λ rule. rule.switch < count)
          → IfSome (option_map (λ rule. map (rule_of rule) (operations_of ways)) o) (AreThere count)
      by-template None none = tt
      by-template (Some rule) less = ways-there rule less (operations_of ways)

  some-there : (o : Option (List Rule)) (rules : List Rule) → o ≡ Some rules
      → IfSome o (AreThere count) → AreThere count rules
  some-there o rules is h =
      subst (λ (o : Option (List Rule)). IfSome o (AreThere count)) is h

  tokens-there : (line : ℕ) (ts : List RuleToken) (r : Result (List Rule) RuleFault)
      → TokensRead line ts r → TokensFit count ts → IfOk r (AreThere count)
  tokens-there line ts r (TokensRead.bad_line no-rule) h = tt
  tokens-there line ts r (TokensRead.unknown_name prints e) h = tt
  tokens-there line ts r (TokensRead.bad_value prints e f) h = tt
  tokens-there line ts r (TokensRead.too_deep prints e f g) h = tt
  tokens-there line ts r (TokensRead.rules {s = s} {rules = rules} prints e f g) h =
      some-there (rules_of line s) rules f (said-there line ts s prints h)

  line-there : (line : ℕ) (text : List ℕ) (r : Result (List Rule) RuleFault)
      → LineRead bay line text r → IfOk r (AreThere count)
  line-there line text r (LineRead.bad_word e) = tt
  line-there line text r (LineRead.tokens {ts = ts} e read) =
      tokens-there line ts r read
      (subst (λ (o : Option (List RuleToken)). IfSome o (TokensFit count)) e (line-fits text))

  both-there : (rules more : List Rule) → AreThere count rules → AreThere count more
      → AreThere count (rules ++ more)
  both-there [] more h k = k
  both-there (rule ∷ rules) more h k = (h.0, both-there rules more h.1 k)

  onto-there : (rules : List Rule) (r : Result (List Rule) RuleFault) → AreThere count rules
      → IfOk r (AreThere count) → IfOk (prepend_rules rules r) (AreThere count)
  onto-there rules (Ok more) h k = both-there rules more h k
  onto-there rules (Err fault) h k = tt

  lines-there : (line many : ℕ) (lines : List (List ℕ)) (r : Result (List Rule) RuleFault)
      → LinesRead bay line many lines r → IfOk r (AreThere count)
  lines-there line many lines r LinesRead.done = tt
  lines-there line many lines r (LinesRead.refused a) = tt
  lines-there line many lines r (LinesRead.too_many a over) = tt
  lines-there line many lines r (LinesRead.next {text = text} {rest = rest} {rules = rules} {r = s}
      a few more) =
      onto-there rules s (line-there line text (Ok rules) a)
      (lines-there (line + 1) (many + length rules) rest s more)

  at-there : (rules : List Rule) (place : ℕ) (rule : Rule) → slice_get rules place ≡ Some rule
      → AreThere count rules → rule.switch < count
  at-there [] place rule here h = absurd cc
  at-there (r ∷ rules) zero rule here h =
      let same : r ≡ rule = cc in subst (λ (r : Rule). r.switch < count) same h.0
  at-there (r ∷ rules) (suc place) rule here h = at-there rules place rule here h.1

  some-rule-there : (r : Result (List Rule) RuleFault) → IfOk r (AreThere count)
      → IfOk (some_rule r) (AreThere count)
  some-rule-there (Ok []) h = tt
  some-rule-there (Ok (rule ∷ rules)) h = h
  some-rule-there (Err fault) h = tt

  pub rule-there : (text : List ℕ) (rules : List Rule) → TextRead bay text (Ok rules)
      → (place : ℕ) (rule : Rule) → slice_get rules place ≡ Some rule → rule.switch < count
  rule-there text rules read place rule here =
      at-there rules place rule here
      (subst (λ (r : Result (List Rule) RuleFault). IfOk r (AreThere count)) (sym read.is)
      (some-rule-there read.all
      (lines-there 1 0 (slice_split is_line_end text) read.all read.read)))
