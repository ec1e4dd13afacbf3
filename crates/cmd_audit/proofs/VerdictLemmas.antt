-- The lines of an audit are read back.
use Rattle.std.proofs.Common.{◌≡◌, ◌-◌, ◌==◌, ℕ, zero, suc, ℤ, pos, negsuc, Bool, true, false, not, ◌&&◌, cond, List, [], ◌∷◌, ◌++◌, append_assoc, length, codes, slice_get, zip, Option, Some, None, refl, sym, ap, ap₂, ◌∙◌, subst, arith}
use Rattle.std.proofs.lemmas.Bool.{and_parts}
use Rattle.std.proofs.lemmas.Bool.Decides.{nat_tests}
use Rattle.std.proofs.lemmas.Grind.{common_steps}
use Rattle.std.specs.Fmt.{decimal, signed_decimal}
use Rattle.std.specs.List.{Contains, flat_map, list_all, onto_first}
use Rattle.std.specs.Ordering.{int_eq}
use Rattle.std.specs.Str.{bytes_eq}
use Rattle.bay_base.specs.declared.point.Source.{Source}
use Rattle.bay_base.specs.declared.point.Source.TheVariants as source
use Rattle.bay_base.specs.declared.point.SwitchPoint.TheVariants.{Position, Open, Closed, EnableOpen, EnableClose}
use Rattle.bay_base.specs.declared.switch.Operation.{Operation}
use Rattle.bay_base.specs.declared.switch.Operation.TheVariants as operations
use Rattle.bay_nodes.specs.declared.switch.Switch.{Switch}
use Rattle.bay_base.specs.declared.position.Dbpos.TheVariants.{Intermediate, Off, On, Bad}
use Rattle.bay_config.specs.Key.{is_name_character}
use Rattle.bay_config.specs.declared.bay.Bay.{Bay}
use Rattle.bay_audit_rules.specs.declared.rule.Rule.{Rule}
use Rattle.bay_audit.specs.Cases.{high_of, input_may, low_of, may_be}
use Rattle.bay_audit.specs.Rules.{AreRightAnswers, BoundProgram, IsRightAnswer}
use Rattle.bay_audit.specs.declared.answer.RuleAnswer.{RuleAnswer}
use Rattle.bay_audit.specs.declared.answer.RuleAnswer.TheVariants as answer
use Rattle.bay_audit.specs.declared.answer.CaseRelease.{CaseRelease}
use Rattle.bay_audit.specs.declared.answer.CaseRelease.TheVariants as release
use Rattle.bay_audit.specs.declared.answer.StateDependencies.{StateDependencies}
use Rattle.bay_audit.specs.declared.answer.Release.{Release}
use Rattle.bay_audit.specs.declared.answer.ReportedCase.{ReportedCase}
use Rattle.bay_audit.specs.declared.case.TestAnswer.{TestAnswer}
use Rattle.il_image.specs.Images.{Each}
use Rattle.il_image.specs.declared.image.ImagePoint.{ImagePoint}
use Rattle.bay_replay_laws.specs.Printed.{words_in}
use Rattle.bay_replay_laws.proofs.LineLemmas.{AreLines, decimal-free, free, free-append, map-lines, more-lines, no-lines, one-line, split-at}
use Rattle.bay_replay_laws.proofs.ReadLemmas.{no-end, no-space}
use Rattle.cmd_audit.specs.Names.{AreWords, HasWords, IsWord, ProgramNames}
use Rattle.cmd_audit.specs.Text as spec
use Rattle.cmd_audit.specs.Verdicts.{IsHold, PrintedHold, hold_in, hold_from_parts, operation_in, printed_hold}

-- ---- octets that end no line

-- no octet of the text ends a line
abbrev pub IsFree : List ℕ → Type 0
IsFree xs = free 10 xs ≡ true

word-free : (c : ℕ) → is_name_character c ≡ false → (s : List ℕ) → IsWord s → free c s ≡ true
word-free c other [] word = refl
word-free c other (x ∷ s) word =
    let parts = and_parts (is_name_character x) (list_all is_name_character s) word in
    ap₂ (λ a b. a && b) (apart (x == c) refl parts.0) (word-free c other s parts.1)
  where
    apart : (b : Bool) → (x == c) ≡ b → is_name_character x ≡ true → not (x == c) ≡ true
    apart false differs named = ap not differs
    apart true same named =
        let is : x ≡ c = grind (arith, nat_tests) in
        let here : is_name_character c ≡ true = subst (λ y. is_name_character y ≡ true) is named in
        absurd cc

one-of : (b : Bool) (xs ys : List ℕ) → IsFree xs → IsFree ys → IsFree (cond b xs ys)
one-of true xs ys p q = p
one-of false xs ys p q = q

flat-free : {A : Type 0} (f : A → List ℕ) (P : A → Type 0) (xs : List A) → Each P xs
    → ((x : A) → P x → IsFree (f x)) → IsFree (flat_map f xs)
flat-free f P [] all is = refl
flat-free f P (x ∷ xs) all is =
    free-append 10 (f x) (flat_map f xs) (is x all.0) (flat-free f P xs all.1 is)

-- texts that end no line end none one after the other
pub flat-all : {A : Type 0} (f : A → List ℕ) (xs : List A) → ((x : A) → IsFree (f x))
    → IsFree (flat_map f xs)
flat-all f [] is = refl
flat-all f (x ∷ xs) is = free-append 10 (f x) (flat_map f xs) (is x) (flat-all f xs is)

-- digits end no line
pub number-free : (n : ℕ) → IsFree (decimal n)
number-free n = decimal-free 10 n no-end

signed-free : (n : ℤ) → IsFree (signed_decimal n)
signed-free (pos n) = number-free n
signed-free (negsuc n) = number-free (suc n)

-- a word ends no line
pub name-free : (s : List ℕ) → IsWord s → IsFree s
name-free s word = word-free 10 refl s word

-- ---- cases

-- the value has the property, if there is one
abbrev pub Maybe : {A : Type 0} → (A → Type 0) → Option A → Type 0
Maybe P None = Unit {0}
Maybe P (Some x) = P x

-- a property of each item is one of the item at an index
pub each-get : {A : Type 0} (P : A → Type 0) (xs : List A) (k : ℕ) → Each P xs
    → Maybe P (slice_get xs k)
each-get P [] k all = tt
each-get P (x ∷ xs) zero all = all.0
each-get P (x ∷ xs) (suc k) all = each-get P xs k all.1

equals-free : (name : List ℕ) → IsWord name → IsFree (spec.name_text name)
equals-free name word =
    free-append 10 (codes " ") (name ++ codes "=") refl
    (free-append 10 name (codes "=") (name-free name word) refl)

positions-free : (i o n b : Bool) → IsFree (spec.positions_of i o n b)
positions-free i o n b = grind (arith, common_steps)

switch-free : (case : List TestAnswer) (k : ℕ) (o : Option Switch) → Maybe (λ s. IsWord s.id) o
    → IsFree (spec.switch_text case k o)
switch-free case k None word = refl
switch-free case k (Some switch) word =
    one-of (spec.is_any_position case k) [] (spec.name_text switch.id ++ spec.positions_text case k)
    refl
    (free-append 10 (spec.name_text switch.id) (spec.positions_text case k)
    (equals-free switch.id word)
    (positions-free (may_be case k Intermediate) (may_be case k Off) (may_be case k On)
    (may_be case k Bad)))

input-free : (case : List TestAnswer) (k : ℕ) (name : List ℕ) → IsWord name
    → IsFree (spec.input_text case k name)
input-free case k name word =
    one-of (input_may case k true && input_may case k false) []
    (spec.name_text name ++ cond (input_may case k true) (codes "1") (codes "0")) refl
    (free-append 10 (spec.name_text name) (cond (input_may case k true) (codes "1") (codes "0"))
    (equals-free name word) (one-of (input_may case k true) (codes "1") (codes "0") refl refl))

range-free : (low high : ℤ) → IsFree (spec.range_text low high)
range-free low high =
    one-of (int_eq low high) (signed_decimal low)
    (signed_decimal low ++ codes ".." ++ signed_decimal high) (signed-free low)
    (free-append 10 (signed_decimal low ++ codes "..") (signed_decimal high)
    (free-append 10 (signed_decimal low) (codes "..") (signed-free low) refl) (signed-free high))

measure-free : (low high : ℤ) (name : List ℕ) → IsWord name
    → IsFree (spec.range_measure low high name)
measure-free low high name word =
    one-of (int_eq low (negsuc 2147483647) && int_eq high (pos 2147483647)) []
    (spec.name_text name ++ spec.range_text low high) refl
    (free-append 10 (spec.name_text name) (spec.range_text low high) (equals-free name word)
    (range-free low high))

point-free : (bay : Bay) (case : List TestAnswer) (name : List ℕ) (s : Source) → HasWords bay
    → IsWord name → IsFree (spec.source_text bay case name s)
point-free bay case name (source.Switch k Position) words word =
    switch-free case k (slice_get bay.switches k)
    (each-get (λ s. IsWord s.id) bay.switches k words.switches)
point-free bay case name (source.Switch k Open) words word = refl
point-free bay case name (source.Switch k Closed) words word = refl
point-free bay case name (source.Switch k EnableOpen) words word = refl
point-free bay case name (source.Switch k EnableClose) words word = refl
point-free bay case name (source.Input k) words word = input-free case k name word
point-free bay case name (source.Meter k field) words word =
    measure-free (low_of case k field) (high_of case k field) name word

-- a case ends no line
pub case-free : (bay : Bay) (case : List TestAnswer) → HasWords bay
    → IsFree (spec.case_text bay case)
case-free bay case words =
    flat-free (spec.point_text bay case) (λ p. IsWord p.name) bay.points words.points
    (λ p word. point-free bay case p.name p.source words word)

-- ---- what is kept

blank-free : (name : List ℕ) → IsFree name → IsFree (codes " " ++ name)
blank-free name is = free-append 10 (codes " ") name refl is

named-free : (word : List ℕ) (k : ℕ) (o : Option (List ℕ)) → IsFree word → Maybe IsWord o
    → IsFree (spec.named_text word k o)
named-free word k None plain is =
    blank-free (word ++ decimal k) (free-append 10 word (decimal k) plain (number-free k))
named-free word k (Some name) plain is = blank-free name (name-free name is)

slot-free : (names : ProgramNames) (k : ℕ) (o : Option ImagePoint) → AreWords names
    → Maybe (λ p. IsWord p.name) o → IsFree (spec.slot_name names k o)
slot-free names k None words is =
    named-free (codes "variable") (k - length names.points)
    (slice_get names.variables (k - length names.points)) refl
    (each-get IsWord names.variables (k - length names.points) words.variables)
slot-free names k (Some point) words is = blank-free point.name (name-free point.name is)

timer-free : (names : ProgramNames) (k : ℕ) → AreWords names → IsFree (spec.timer_text names k)
timer-free names k words =
    named-free (codes "timer") k (slice_get names.timers k) refl
    (each-get IsWord names.timers k words.timers)

cond-free : (b : Bool) (rest : List ℕ) → IsFree rest → IsFree (cond b [] rest)
cond-free true rest free = refl
cond-free false rest free = free

kept-free : (word : List ℕ) (names : ProgramNames) (kept : StateDependencies) → IsFree word
    → AreWords names
    → IsFree (spec.dependencies_text word names kept)
kept-free word names kept plain words =
    let slots : List ℕ = flat_map (spec.slot_text names) kept.slots.items in
    let timers : List ℕ = flat_map (spec.timer_text names) kept.timers.items in
    cond-free (length kept.slots.items == 0 && length kept.timers.items == 0)
    (word ++ (slots ++ timers))
    (free-append 10 word (slots ++ timers) plain
    (free-append 10 slots timers
    (flat-all (spec.slot_text names) kept.slots.items (λ k. slot-free names k
    (slice_get names.points k) words (each-get (λ p. IsWord p.name) names.points k words.points)))
    (flat-all (spec.timer_text names) kept.timers.items (λ k. timer-free names k words))))

-- ---- words

-- the first word; none if there is no word
abbrev pub first : List (List ℕ) → List ℕ
first [] = []
first (w ∷ ws) = w

first-onto : (x : ℕ) (ws : List (List ℕ)) → first (onto_first x ws) ≡ x ∷ first ws
first-onto x [] = refl
first-onto x (w ∷ ws) = refl

-- words that begin with another word are of no rule
pub other-words : (ws : List (List ℕ)) → bytes_eq (first ws) (codes "rule") ≡ false
    → hold_in ws ≡ None
other-words [] other = refl
other-words (a ∷ []) other = refl
other-words (a ∷ b ∷ []) other = refl
other-words (a ∷ b ∷ c ∷ []) other = refl
other-words (a ∷ b ∷ c ∷ d ∷ []) other = refl
other-words (a ∷ b ∷ c ∷ d ∷ e ∷ ws) other = rw other refl

other-verdict : (line id word : List ℕ) (ws : List (List ℕ))
    → bytes_eq (first ws) (codes "holds") ≡ false
    → hold_in (codes "rule" ∷ line ∷ id ∷ word ∷ ws) ≡ None
other-verdict line id word [] other = refl
other-verdict line id word (v ∷ ws) other = rw other refl

abbrev operation_word : Operation → List ℕ
operation_word operations.Open = codes "open"
operation_word operations.Close = codes "close"

record AreRead (l i : List ℕ) (o : Operation) (hold : PrintedHold) : Type 0 where
  line : l ≡ hold.line
  id : i ≡ hold.id
  operation : o ≡ hold.operation

told-read : (line id : List ℕ) (operation : Operation) (hold : PrintedHold)
    → (let o : Option PrintedHold =
    Some (record { line = line; id = id; operation = operation }) in o) ≡ Some hold
    → AreRead line id operation hold
told-read line id operation hold e = record { line = cc; id = cc; operation = cc }

hold-read : (line id : List ℕ) (operation : Operation) (ws : List (List ℕ)) (hold : PrintedHold)
    → hold_in (codes "rule" ∷ line ∷ id ∷ operation_word operation ∷ ws) ≡ Some hold
    → AreRead line id operation hold
hold-read line id operation [] hold e = absurd cc
hold-read line id operation (v ∷ ws) hold e = by-test (bytes_eq v (codes "holds")) operation e
  where
    by-test : (b : Bool) (o : Operation)
        → cond b (hold_from_parts line id (operation_in (operation_word o))) None ≡ Some hold
        → AreRead line id o hold
    by-test true operations.Open is = told-read line id operations.Open hold is
    by-test true operations.Close is = told-read line id operations.Close hold is
    by-test false o is = absurd cc

word-plain : (o : Operation) → free 32 (operation_word o) ≡ true
word-plain operations.Open = refl
word-plain operations.Close = refl

operation-is : (o : Operation) → spec.operation_text o ≡ 32 ∷ operation_word o
operation-is operations.Open = refl
operation-is operations.Close = refl

-- an operation ends no line
pub operation-free : (o : Operation) → IsFree (spec.operation_text o)
operation-free operations.Open = refl
operation-free operations.Close = refl

-- ---- the line of a rule

abbrev rule_line : ℕ → List ℕ → Operation → List ℕ → List ℕ
rule_line line id o rest =
    codes "rule" ++ 32 ∷ (decimal line ++ 32 ∷ (id ++ 32 ∷ (operation_word o ++ 32 ∷ rest)))

rule-line-is : (line : ℕ) (id : List ℕ) (o : Operation) (rest : List ℕ)
    → (codes "rule " ++ (decimal line ++ spec.switch_operation_text (codes " ") id o)) ++ 32 ∷ rest
    ≡ rule_line line id o rest
rule-line-is line id o rest =
    let behind : (id ++ spec.operation_text o) ++ 32 ∷ rest
    ≡ id ++ 32 ∷ (operation_word o ++ 32 ∷ rest) =
    append_assoc id (spec.operation_text o) (32 ∷ rest)
    ∙ ap (λ t. id ++ (t ++ 32 ∷ rest)) (operation-is o) in
    let inner : (decimal line ++ spec.switch_operation_text (codes " ") id o) ++ 32 ∷ rest
    ≡ decimal line ++ 32 ∷ (id ++ 32 ∷ (operation_word o ++ 32 ∷ rest)) =
    append_assoc (decimal line) (spec.switch_operation_text (codes " ") id o) (32 ∷ rest)
    ∙ ap (λ t. decimal line ++ 32 ∷ t) behind in
    ap (λ t. codes "rule" ++ 32 ∷ t) inner

rule-words : (line : ℕ) (id : List ℕ) (o : Operation) (rest : List ℕ) → free 32 id ≡ true
    → words_in (rule_line line id o rest)
    ≡ codes "rule" ∷ decimal line ∷ id ∷ operation_word o ∷ words_in rest
rule-words line id o rest plain =
    let third : List ℕ = operation_word o ++ 32 ∷ rest in
    let second : List ℕ = id ++ 32 ∷ third in
    split-at 32 (codes "rule") (decimal line ++ 32 ∷ second) refl
    ∙ ap (λ ls. codes "rule" ∷ ls)
    (split-at 32 (decimal line) second (decimal-free 32 line no-space)
    ∙ ap (λ ls. decimal line ∷ ls) (split-at 32 id third plain
    ∙ ap (λ ls. id ∷ ls) (split-at 32 (operation_word o) rest (word-plain o))))

-- the id of a switch is a word
pub id-word : (o : Option Switch) → Maybe (λ s. IsWord s.id) o → IsWord (spec.id_of o)
id-word None word = refl
id-word (Some switch) word = word

module _ (bay : Bay) (names : ProgramNames) (g : BoundProgram) (words : HasWords bay)
    (known : AreWords names) where
  abbrev pub Says : List (Rule × RuleAnswer) → List ℕ → Type 0
  Says pairs line =
      (hold : PrintedHold) → printed_hold line ≡ Some hold → IsHold bay g pairs hold

  pub says-none : (pairs : List (Rule × RuleAnswer)) (line : List ℕ) → printed_hold line ≡ None
      → Says pairs line
  says-none pairs line none hold e = absurd (let bad : None ≡ Some hold = sym none ∙ e in cc)

  abbrev rule_id : Rule → List ℕ
  rule_id rule = spec.id_of (slice_get bay.switches rule.switch)

  rule-id-word : (rule : Rule) → IsWord (rule_id rule)
  rule-id-word rule =
      id-word (slice_get bay.switches rule.switch)
      (each-get (λ s. IsWord s.id) bay.switches rule.switch words.switches)

  printed-is : (rule : Rule) (rest : List ℕ)
      → printed_hold (spec.rule_start_text bay rule ++ 32 ∷ rest)
      ≡ hold_in (codes "rule" ∷ decimal rule.line ∷ rule_id rule ∷ operation_word rule.operation
      ∷ words_in rest)
  printed-is rule rest =
      ap printed_hold (rule-line-is rule.line (rule_id rule) rule.operation rest)
      ∙ ap hold_in (rule-words rule.line (rule_id rule) rule.operation rest
      (word-free 32 refl (rule_id rule) (rule-id-word rule)))

  says-holds : (rule : Rule) (a : RuleAnswer) (rest : List ℕ) (pairs : List (Rule × RuleAnswer))
      → Contains pairs (rule, a) → IsRightAnswer g rule a → spec.is_passed a ≡ true
      → Says pairs (spec.rule_start_text bay rule ++ 32 ∷ rest)
  says-holds rule a rest pairs among right holds hold e =
      let read =
      hold-read (decimal rule.line) (rule_id rule) rule.operation (words_in rest) hold
      (sym (printed-is rule rest) ∙ e) in
      record {
        pair = (rule, a);
        among = among;
        line = read.line;
        switch = read.id;
        operation = read.operation;
        holds = holds;
        right = right;
      }

  says-other : (rule : Rule) (rest : List ℕ) (pairs : List (Rule × RuleAnswer))
      → bytes_eq (first (words_in rest)) (codes "holds") ≡ false
      → Says pairs (spec.rule_start_text bay rule ++ 32 ∷ rest)
  says-other rule rest pairs other =
      says-none pairs (spec.rule_start_text bay rule ++ 32 ∷ rest)
      (printed-is rule rest
      ∙ other-verdict (decimal rule.line) (rule_id rule) (operation_word rule.operation)
      (words_in rest) other)

  says-answer : (rule : Rule) (a : RuleAnswer) (pairs : List (Rule × RuleAnswer))
      → Contains pairs (rule, a) → IsRightAnswer g rule a
      → Says pairs (spec.rule_start_text bay rule ++ spec.verdict_text bay names a)
  says-answer rule (answer.Holds cases) pairs among right =
      says-holds rule (answer.Holds cases) (codes "holds cases=" ++ decimal cases) pairs among right
      refl
  says-answer rule (answer.Since n cases) pairs among right =
      says-holds rule (answer.Since n cases)
      ((codes "holds cases=" ++ decimal cases) ++ (codes " by" ++ spec.timer_text names n)) pairs
      among
      right refl
  says-answer rule (answer.Broken case) pairs among right =
      says-other rule (codes "broken" ++ spec.case_text bay case) pairs
      (ap (λ w. bytes_eq w (codes "holds"))
      (first-onto 98 (words_in (codes "roken" ++ spec.case_text bay case))))
  says-answer rule (answer.Open case kept) pairs among right =
      says-other rule
      (codes "open" ++ (spec.case_text bay case ++ spec.dependencies_text (codes " by") names kept))
      pairs
      (ap (λ w. bytes_eq w (codes "holds"))
      (first-onto 111
      (words_in
      (codes "pen" ++ (spec.case_text bay case
      ++ spec.dependencies_text (codes " by") names kept)))))
  says-answer rule answer.TooMany pairs among right = says-other rule (codes "many") pairs refl

  held-free : (cases : ℕ) → IsFree (spec.holds_text cases)
  held-free cases = free-append 10 (codes " holds cases=") (decimal cases) refl (number-free cases)

  said-free : (a : RuleAnswer) → IsFree (spec.verdict_text bay names a)
  said-free (answer.Holds cases) = held-free cases
  said-free (answer.Since n cases) =
      free-append 10 (spec.holds_text cases) (codes " by" ++ spec.timer_text names n)
      (held-free cases)
      (free-append 10 (codes " by") (spec.timer_text names n) refl (timer-free names n known))
  said-free (answer.Broken case) =
      free-append 10 (codes " broken") (spec.case_text bay case) refl (case-free bay case words)
  said-free (answer.Open case kept) =
      let rest : List ℕ = spec.dependencies_text (codes " by") names kept in
      free-append 10 (codes " open") (spec.case_text bay case ++ rest) refl
      (free-append 10 (spec.case_text bay case) rest (case-free bay case words)
      (kept-free (codes " by") names kept refl known))
  said-free answer.TooMany = refl

  way-free : (word id : List ℕ) (o : Operation) → IsFree word → IsWord id
      → IsFree (spec.switch_operation_text word id o)
  way-free word id o plain is =
      free-append 10 word (id ++ spec.operation_text o) plain
      (free-append 10 id (spec.operation_text o) (name-free id is) (operation-free o))

  front-free : (rule : Rule) → IsFree (spec.rule_start_text bay rule)
  front-free rule =
      free-append 10 (codes "rule ")
      (decimal rule.line ++ spec.switch_operation_text (codes " ") (rule_id rule) rule.operation)
      refl
      (free-append 10 (decimal rule.line)
      (spec.switch_operation_text (codes " ") (rule_id rule) rule.operation)
      (number-free rule.line)
      (way-free (codes " ") (rule_id rule) rule.operation refl (rule-id-word rule)))

  pub here : (p : Rule × RuleAnswer) (ps : List (Rule × RuleAnswer)) → Contains (p ∷ ps) p
  here p ps = (0, omega arith, refl)

  later : (p : Rule × RuleAnswer) (ps : List (Rule × RuleAnswer)) (q : Rule × RuleAnswer)
      → Contains ps q
      → Contains (p ∷ ps) q
  later p ps q at = (suc at.0, omega (arith, at.1), at.2)

  pub lift : (p : Rule × RuleAnswer) (ps : List (Rule × RuleAnswer)) (line : List ℕ) → Says ps line
      → Says (p ∷ ps) line
  lift p ps line prints hold e =
      let it = prints hold e in
      record {
        pair = it.pair;
        among = later p ps it.pair it.among;
        line = it.line;
        switch = it.switch;
        operation = it.operation;
        holds = it.holds;
        right = it.right;
      }

  pub answer-lines : (rule : Rule) (a : RuleAnswer) (pairs : List (Rule × RuleAnswer))
      → Contains pairs (rule, a)
      → IsRightAnswer g rule a → AreLines (Says pairs) (spec.answer_text bay names (rule, a))
  answer-lines rule a pairs among right =
      let front : List ℕ = spec.rule_start_text bay rule in
      let written : List ℕ = spec.verdict_text bay names a in
      subst (AreLines (Says pairs)) (append_assoc front written (codes "\n"))
      (one-line (front ++ written) (free-append 10 front written (front-free rule) (said-free a))
      (says-answer rule a pairs among right))

  pub answers-lines : (rules : List Rule) (answers : List RuleAnswer)
      → AreRightAnswers g rules answers
      → AreLines (Says (zip rules answers)) (spec.answers_text bay names (zip rules answers))
  answers-lines [] [] right = no-lines
  answers-lines [] (a ∷ answers) right = absurd right
  answers-lines (rule ∷ rules) [] right = absurd right
  answers-lines (rule ∷ rules) (a ∷ answers) right =
      more-lines
      (answer-lines rule a ((rule, a) ∷ zip rules answers) (here (rule, a) (zip rules answers))
      right.0)
      (map-lines (lift (rule, a) (zip rules answers)) (answers-lines rules answers right.1))

  -- ---- releases

  pub says-word : (pairs : List (Rule × RuleAnswer)) (line : List ℕ)
      → bytes_eq (first (words_in line)) (codes "rule") ≡ false → Says pairs line
  says-word pairs line other = says-none pairs line (other-words (words_in line) other)

  one-other : (x : ℕ) (ws : List (List ℕ)) → bytes_eq (x ∷ first ws) (codes "rule") ≡ false
      → bytes_eq (first (onto_first x ws)) (codes "rule") ≡ false
  one-other x ws other = rw (first-onto x ws) other

  two-other : (x y : ℕ) (ws : List (List ℕ)) → bytes_eq (x ∷ y ∷ first ws) (codes "rule") ≡ false
      → bytes_eq (first (onto_first x (onto_first y ws))) (codes "rule") ≡ false
  two-other x y ws other = rw (first-onto x (onto_first y ws), first-onto y ws) other

  told-lines : (pairs : List (Rule × RuleAnswer)) (case : List TestAnswer) (t : CaseRelease)
      → AreLines (Says pairs) (spec.case_release_text bay names case t ++ codes "\n")
  told-lines pairs case release.Released =
      one-line (codes "released" ++ spec.case_text bay case)
      (free-append 10 (codes "released") (spec.case_text bay case) refl (case-free bay case words))
      (says-word pairs (codes "released" ++ spec.case_text bay case)
      (two-other 114 101 (words_in (codes "leased" ++ spec.case_text bay case)) refl))
  told-lines pairs case release.Refused =
      one-line (codes "blocked" ++ spec.case_text bay case)
      (free-append 10 (codes "blocked") (spec.case_text bay case) refl (case-free bay case words))
      (says-word pairs (codes "blocked" ++ spec.case_text bay case)
      (one-other 98 (words_in (codes "locked" ++ spec.case_text bay case)) refl))
  told-lines pairs case (release.Depends kept) =
      let rest : List ℕ =
      spec.case_text bay case ++ spec.dependencies_text (codes " on") names kept in
      one-line (codes "depends" ++ rest)
      (free-append 10 (codes "depends") rest refl
      (free-append 10 (spec.case_text bay case) (spec.dependencies_text (codes " on") names kept)
      (case-free bay case words) (kept-free (codes " on") names kept refl known)))
      (says-word pairs (codes "depends" ++ rest)
      (one-other 100 (words_in (codes "epends" ++ rest)) refl))

  flat-lines : {A : Type 0} (f : A → List ℕ) (pairs : List (Rule × RuleAnswer)) (xs : List A)
      → ((x : A) → AreLines (Says pairs) (f x)) → AreLines (Says pairs) (flat_map f xs)
  flat-lines f pairs [] are = no-lines
  flat-lines f pairs (x ∷ xs) are = more-lines (are x) (flat-lines f pairs xs are)

  head-says : (pairs : List (Rule × RuleAnswer)) (id : List ℕ) (o : Operation) (rest : List ℕ)
      → Says pairs (spec.switch_operation_text (codes "release ") id o ++ rest)
  head-says pairs id o rest =
      says-word pairs (spec.switch_operation_text (codes "release ") id o ++ rest)
      (two-other 114 101 (words_in (codes "lease " ++ (id ++ spec.operation_text o) ++ rest)) refl)

  many-lines : (pairs : List (Rule × RuleAnswer)) (id : List ℕ) (o : Operation) → IsWord id
      → AreLines (Says pairs)
      (spec.switch_operation_text (codes "release ") id o ++ codes " many\n")
  many-lines pairs id o is =
      let way : List ℕ = spec.switch_operation_text (codes "release ") id o in
      subst (AreLines (Says pairs)) (append_assoc way (codes " many") (codes "\n"))
      (one-line (way ++ codes " many")
      (free-append 10 way (codes " many") (way-free (codes "release ") id o refl is) refl)
      (head-says pairs id o (codes " many")))

  cases-lines : (pairs : List (Rule × RuleAnswer)) (id : List ℕ) (o : Operation)
      (cases : List ReportedCase)
      → IsWord id
      → AreLines (Says pairs)
      (spec.switch_operation_text (codes "release ") id o ++ spec.cases_text bay names cases)
  cases-lines pairs id o cases is =
      let way : List ℕ = spec.switch_operation_text (codes "release ") id o in
      let count : List ℕ = codes " cases=" ++ decimal (length cases) in
      let release : List ℕ = flat_map (spec.reported_case_text bay names) cases in
      let whole : ((way ++ count) ++ codes "\n") ++ release
      ≡ way ++ spec.cases_text bay names cases =
      append_assoc (way ++ count) (codes "\n") release
      ∙ append_assoc way count (10 ∷ release)
      ∙ ap (λ t. way ++ t) (sym (append_assoc count (codes "\n") release)) in
      subst (AreLines (Says pairs)) whole
      (more-lines
      (one-line (way ++ count)
      (free-append 10 way count (way-free (codes "release ") id o refl is)
      (free-append 10 (codes " cases=") (decimal (length cases)) refl (number-free (length cases))))
      (head-says pairs id o count))
      (flat-lines (spec.reported_case_text bay names) pairs cases
      (λ c. told-lines pairs c.case c.release)))

  release-lines : (pairs : List (Rule × RuleAnswer)) (r : Release) (s : Option Switch)
      → Maybe (λ s. IsWord s.id) s → AreLines (Says pairs) (spec.switch_release bay names r s)
  release-lines pairs r None is = no-lines
  release-lines pairs r (Some switch) is = by-test (length r.left.items == 0)
    where
      by-test : (b : Bool)
          → AreLines (Says pairs)
          (spec.switch_operation_text (codes "release ") switch.id r.operation
          ++ cond b (spec.cases_text bay names r.cases.items) (codes " many\n"))
      by-test true = cases-lines pairs switch.id r.operation r.cases.items is
      by-test false = many-lines pairs switch.id r.operation is

  lost-free : (t : CaseRelease) → IsFree (spec.lost_release_text names t)
  lost-free release.Released = refl
  lost-free release.Refused = refl
  lost-free (release.Depends kept) =
      free-append 10 (codes " depends") (spec.dependencies_text (codes " on") names kept) refl
      (kept-free (codes " on") names kept refl known)

  lost-lines : (pairs : List (Rule × RuleAnswer)) (r : Release) (s : Option Switch)
      → Maybe (λ s. IsWord s.id) s → AreLines (Says pairs) (spec.switch_lost names r s)
  lost-lines pairs r None is = no-lines
  lost-lines pairs r (Some switch) is =
      let way : List ℕ = spec.switch_operation_text (codes "lost ") switch.id r.operation in
      let lost : List ℕ = spec.lost_release_text names r.lost in
      subst (AreLines (Says pairs)) (append_assoc way lost (codes "\n"))
      (one-line (way ++ lost)
      (free-append 10 way lost (way-free (codes "lost ") switch.id r.operation refl is)
      (lost-free r.lost))
      (says-word pairs (way ++ lost)
      (one-other 108
      (words_in (codes "ost " ++ (switch.id ++ spec.operation_text r.operation) ++ lost)) refl)))

  start-lines : (pairs : List (Rule × RuleAnswer)) (r : Release) (s : Option Switch)
      → Maybe (λ s. IsWord s.id) s → AreLines (Says pairs) (spec.switch_start names r s)
  start-lines pairs r None is = no-lines
  start-lines pairs r (Some switch) is =
      let way : List ℕ = spec.switch_operation_text (codes "start ") switch.id r.operation in
      let start : List ℕ = spec.lost_release_text names r.start in
      subst (AreLines (Says pairs)) (append_assoc way start (codes "\n"))
      (one-line (way ++ start)
      (free-append 10 way start (way-free (codes "start ") switch.id r.operation refl is)
      (lost-free r.start))
      (says-word pairs (way ++ start)
      (one-other 115
      (words_in (codes "tart " ++ (switch.id ++ spec.operation_text r.operation) ++ start)) refl)))

  pub shown-lines : (pairs : List (Rule × RuleAnswer)) (releases : List Release)
      → AreLines (Says pairs) (flat_map (spec.release_text bay names) releases)
  shown-lines pairs releases =
      flat-lines (spec.release_text bay names) pairs releases
      (λ r. release-lines pairs r (slice_get bay.switches r.switch)
      (each-get (λ s. IsWord s.id) bay.switches r.switch words.switches))

  pub releases-lines : (pairs : List (Rule × RuleAnswer)) (releases : List Release)
      → AreLines (Says pairs) (spec.releases_text bay names releases)
  releases-lines pairs releases =
      more-lines (shown-lines pairs releases)
      (more-lines
      (flat-lines (spec.lost_text bay names) pairs releases
      (λ r. lost-lines pairs r (slice_get bay.switches r.switch)
      (each-get (λ s. IsWord s.id) bay.switches r.switch words.switches)))
      (flat-lines (spec.start_text bay names) pairs releases
      (λ r. start-lines pairs r (slice_get bay.switches r.switch)
      (each-get (λ s. IsWord s.id) bay.switches r.switch words.switches))))
