-- What is printed is read back.
use Rattle.std.proofs.Common.{◌≡◌, ℕ, ◌<◌, ◌^◌, ◌==◌, Bool, true, false, not, ◌&&◌, cond, nat_lt, List, [], ◌∷◌, ◌++◌, length, map, codes, Option, Some, None, refl, ap, ap₂, ◌∙◌, append-nil, arith}
use Rattle.std.proofs.lemmas.Bool.{and_parts, lt-ltb}
use Rattle.std.proofs.lemmas.Fmt.{decimal_nonempty, digits_decimal, digits_value-decimal}
use Rattle.std.proofs.lemmas.Str.Parse.{IsNumeralModel, numerals_by_value, tells_all_ascii_digits}
use Rattle.std.specs.Fmt.{decimal}
use Rattle.std.specs.Prelude.{option_and_then, option_map}
use Rattle.std.specs.Str.{all_ascii_digits, bytes_eq}
use Rattle.std.specs.Str.Parse.{digits_value}
use Rattle.bay_base.specs.declared.switch.Operation.{Operation}
use Rattle.bay_base.specs.declared.switch.Operation.TheVariants as operations
use Rattle.bay_process.specs.Releases.{digit_text}
use Rattle.bay_replay_laws.specs.Printed.{PrintedSwitch, budget_in, command_in, command_from_parts, number_after, number_of, operation_of, parts_in, printed_budget, printed_command, printed_scan, printed_send, scan_in, scan_from_parts, send_in, switch_in, switch_digits, switches_in, words_in}
use Rattle.bay_replay_laws.proofs.LineLemmas.{NoDigit, decimal-free, free, free-append, split-at, split-none}

-- ---- numbers

pub no-end : NoDigit 10
no-end = record { apart = λ d less e. omega arith }

pub no-space : NoDigit 32
no-space = record { apart = λ d less e. omega arith }

pub no-equals : NoDigit 61
no-equals = record { apart = λ d less e. omega arith }

own : IsNumeralModel (λ ds. all_ascii_digits ds ≡ true) (digits_value 10)
own = numerals_by_value _ tells_all_ascii_digits

both-so : (a b : Bool) (n : ℕ) → a ≡ true → b ≡ true
    → (let o : Option ℕ = cond (a && b) (Some n) None in o) ≡ Some n
both-so true true n p q = refl
both-so true false n p q = absurd cc
both-so false b n p q = absurd cc

pub number-read : (n : ℕ) → n < 2 ^ 64 → number_of (decimal n) ≡ Some n
number-read n small =
    both-so (all_ascii_digits (decimal n)) (nat_lt 0 (length (decimal n)))
    (digits_value 10 (decimal n)) (digits_decimal own n small)
    (lt-ltb 0 (length (decimal n)) (decimal_nonempty n small))
    ∙ ap (λ m. let o : Option ℕ = Some m in o) (digits_value-decimal own n small)

if-so : (b : Bool) (o : Option ℕ) → b ≡ true → cond b o None ≡ o
if-so true o e = refl
if-so false o e = absurd cc

pub named-read : (name : List ℕ) (n : ℕ) → free 61 name ≡ true → bytes_eq name name ≡ true
    → n < 2 ^ 64 → number_after name (parts_in (name ++ 61 ∷ decimal n)) ≡ Some n
named-read name n plain same small =
    ap (number_after name) (split-at 61 name (decimal n) plain
    ∙ ap (λ ls. name ∷ ls) (split-none 61 (decimal n) (decimal-free 61 n no-equals)))
    ∙ if-so (bytes_eq name name) (number_of (decimal n)) same ∙ number-read n small

-- ---- the line of a load

abbrev pub load_line : ℕ → ℕ → ℕ → List ℕ
load_line instructions depth budget =
    (codes "instructions=" ++ decimal instructions)
    ++ 32 ∷ ((codes "depth=" ++ decimal depth) ++ 32 ∷ (codes "budget=" ++ decimal budget))

load-words : (i d b : ℕ)
    → words_in (load_line i d b)
    ≡ (codes "instructions=" ++ decimal i) ∷ (codes "depth=" ++ decimal d)
    ∷ (codes "budget=" ++ decimal b) ∷ []
load-words i d b =
    let first : List ℕ = codes "instructions=" ++ decimal i in
    let second : List ℕ = codes "depth=" ++ decimal d in
    let third : List ℕ = codes "budget=" ++ decimal b in
    split-at 32 first (second ++ 32 ∷ third) (decimal-free 32 i no-space)
    ∙ ap (λ ls. first ∷ ls) (split-at 32 second third (decimal-free 32 d no-space)
    ∙ ap (λ ls. second ∷ ls) (split-none 32 third (decimal-free 32 b no-space)))

pub budget-read : (i d b : ℕ) → b < 2 ^ 64 → printed_budget (load_line i d b) ≡ Some b
budget-read i d b small =
    ap budget_in (load-words i d b) ∙ named-read (codes "budget") b refl refl small

-- ---- the line of a scan

-- a name without a space, an `=` and an LF
pub record IsPlain (id : List ℕ) : Type 0 where
  pub no_end : free 10 id ≡ true
  pub no_space : free 32 id ≡ true
  pub no_equals : free 61 id ≡ true

-- no id holds a character at which a line is cut
abbrev pub AllPlain : List PrintedSwitch → Type 0
AllPlain [] = Unit {0}
AllPlain (p ∷ ps) = IsPlain p.id × AllPlain ps

abbrev pub word_of : PrintedSwitch → List ℕ
word_of p = p.id ++ 61 ∷ (digit_text p.opens ++ digit_text p.closes)

abbrev pub told_text : List PrintedSwitch → List ℕ
told_text [] = []
told_text (p ∷ ps) = 32 ∷ (word_of p ++ told_text ps)

digits-free : (c : ℕ) (a b : Bool) → free c (codes "01") ≡ true
    → free c (digit_text a ++ digit_text b) ≡ true
digits-free c true true e = grind arith
digits-free c true false e = grind arith
digits-free c false true e = grind arith
digits-free c false false e = grind arith

pub word-free : (c : ℕ) (p : PrintedSwitch) → free c p.id ≡ true → free c (codes "=01") ≡ true
    → free c (word_of p) ≡ true
word-free c p plain e =
    let parts = and_parts (not (61 == c)) (free c (codes "01")) e in
    free-append c p.id (61 ∷ (digit_text p.opens ++ digit_text p.closes)) plain
    (ap₂ (λ a b. a && b) parts.0 (digits-free c p.opens p.closes parts.1))

words-told : (word : List ℕ) (ps : List PrintedSwitch) → free 32 word ≡ true → AllPlain ps
    → words_in (word ++ told_text ps) ≡ word ∷ map word_of ps
words-told word [] plain all =
    ap (λ t. words_in t) (append-nil word) ∙ split-none 32 word plain
words-told word (p ∷ ps) plain all =
    split-at 32 word (word_of p ++ told_text ps) plain
    ∙ ap (λ ls. word ∷ ls) (words-told (word_of p) ps (word-free 32 p all.0.no_space refl) all.1)

digits-read : (id : List ℕ) (a b : Bool)
    → switch_digits id (digit_text a ++ digit_text b)
    ≡ Some (record { id = id; opens = a; closes = b })
digits-read id true true = refl
digits-read id true false = refl
digits-read id false true = refl
digits-read id false false = refl

switch-read : (p : PrintedSwitch) → IsPlain p.id → switch_in (parts_in (word_of p)) ≡ Some p
switch-read p plain =
    let digits : List ℕ = digit_text p.opens ++ digit_text p.closes in
    ap switch_in (split-at 61 p.id digits plain.no_equals
    ∙ ap (λ ls. p.id ∷ ls) (split-none 61 digits (digits-free 61 p.opens p.closes refl)))
    ∙ digits-read p.id p.opens p.closes

switches-read : (ps : List PrintedSwitch) → AllPlain ps → switches_in (map word_of ps) ≡ Some ps
switches-read [] all = refl
switches-read (p ∷ ps) all =
    ap₂ (λ (o : Option PrintedSwitch) (r : Option (List PrintedSwitch)).
    option_and_then (λ switch. option_map (λ more. switch ∷ more) r) o) (switch-read p all.0)
    (switches-read ps all.1)

abbrev pub scan_line : ℕ → ℕ → List PrintedSwitch → List ℕ
scan_line now steps ps =
    decimal now ++ 32 ∷ (codes "scan" ++ 32 ∷ ((codes "steps=" ++ decimal steps) ++ told_text ps))

pub scan-read : (now steps : ℕ) (ps : List PrintedSwitch) → now < 2 ^ 64 → steps < 2 ^ 64
    → AllPlain ps
    → printed_scan (scan_line now steps ps)
    ≡ Some (record { moment = now; steps = steps; switches = ps })
scan-read now steps ps first second all =
    let word : List ℕ = codes "steps=" ++ decimal steps in
    ap scan_in (split-at 32 (decimal now) (codes "scan" ++ 32 ∷ (word ++ told_text ps))
    (decimal-free 32 now no-space)
    ∙ ap (λ ls. decimal now ∷ ls) (split-at 32 (codes "scan") (word ++ told_text ps) refl
    ∙ ap (λ ls. codes "scan" ∷ ls) (words-told word ps (decimal-free 32 steps no-space) all)))
    ∙ ap (λ o. scan_from_parts o (number_after (codes "steps") (parts_in word))
    (switches_in (map word_of ps))) (number-read now first)
    ∙ ap (λ o. scan_from_parts (Some now) o (switches_in (map word_of ps)))
    (named-read (codes "steps") steps refl refl second)
    ∙ ap (λ o. scan_from_parts (Some now) (Some steps) o) (switches-read ps all)

-- ---- the line of a command

abbrev pub order_word : Operation → List ℕ
order_word operations.Open = codes "off"
order_word operations.Close = codes "on"

abbrev pub order_line : ℕ → List ℕ → Operation → List ℕ
order_line now id o =
    decimal now ++ 32 ∷ (codes "command" ++ 32 ∷ (id ++ 32 ∷ order_word o))

order-free : (o : Operation) → free 32 (order_word o) ≡ true
order-free operations.Open = refl
order-free operations.Close = refl

order-read : (o : Operation) → operation_of (order_word o) ≡ Some o
order-read operations.Open = refl
order-read operations.Close = refl

pub command-read : (now : ℕ) (id : List ℕ) (o : Operation) → now < 2 ^ 64 → IsPlain id
    → printed_command (order_line now id o)
    ≡ Some (record { moment = now; id = id; operation = o })
command-read now id o small plain =
    ap command_in (split-at 32 (decimal now) (codes "command" ++ 32 ∷ (id ++ 32 ∷ order_word o))
    (decimal-free 32 now no-space)
    ∙ ap (λ ls. decimal now ∷ ls) (split-at 32 (codes "command") (id ++ 32 ∷ order_word o) refl
    ∙ ap (λ ls. codes "command" ∷ ls) (split-at 32 id (order_word o) plain.no_space
    ∙ ap (λ ls. id ∷ ls) (split-none 32 (order_word o) (order-free o)))))
    ∙ ap (λ m. command_from_parts m id (operation_of (order_word o))) (number-read now small)
    ∙ ap (λ m. command_from_parts (Some now) id m) (order-read o)

-- ---- the line of sent octets

abbrev pub send_line : ℕ → ℕ → List ℕ → List ℕ
send_line now a digits = decimal now ++ 32 ∷ (codes "send" ++ 32 ∷ (decimal a ++ 32 ∷ digits))

pub send-read : (now a : ℕ) (digits : List ℕ) → free 32 digits ≡ true
    → printed_send (send_line now a digits)
    ≡ Some (record { association = decimal a; octets = digits })
send-read now a digits plain =
    ap send_in (split-at 32 (decimal now) (codes "send" ++ 32 ∷ (decimal a ++ 32 ∷ digits))
    (decimal-free 32 now no-space)
    ∙ ap (λ ls. decimal now ∷ ls) (split-at 32 (codes "send") (decimal a ++ 32 ∷ digits) refl
    ∙ ap (λ ls. codes "send" ∷ ls) (split-at 32 (decimal a) digits (decimal-free 32 a no-space)
    ∙ ap (λ ls. decimal a ∷ ls) (split-none 32 digits plain))))

-- ---- other lines

-- A line is neither that of a scan nor that of a command.
pub record IsOther (line : List ℕ) : Type 0 where
  pub no_scan : printed_scan line ≡ None
  pub no_command : printed_command line ≡ None

if-not : {A : Type 0} (b : Bool) (o : Option A) → b ≡ false
    → (let x : Option A = cond b o None in x) ≡ None
if-not true o e = absurd cc
if-not false o e = refl

-- whose second word is another
no-scan : (word verb : List ℕ) (words : List (List ℕ)) → bytes_eq verb (codes "scan") ≡ false
    → scan_in (word ∷ verb ∷ words) ≡ None
no-scan word verb [] other = refl
no-scan word verb (x ∷ words) other = if-not _ _ other

no-command : (word verb : List ℕ) (words : List (List ℕ))
    → bytes_eq verb (codes "command") ≡ false → command_in (word ∷ verb ∷ words) ≡ None
no-command word verb [] other = refl
no-command word verb (x ∷ []) other = refl
no-command word verb (x ∷ y ∷ []) other = if-not _ _ other
no-command word verb (x ∷ y ∷ z ∷ words) other = refl

words-two : (word verb rest : List ℕ) → free 32 word ≡ true → free 32 verb ≡ true
    → words_in (word ++ 32 ∷ (verb ++ 32 ∷ rest)) ≡ word ∷ verb ∷ words_in rest
words-two word verb rest plain verb_plain =
    split-at 32 word (verb ++ 32 ∷ rest) plain
    ∙ ap (λ ls. word ∷ ls) (split-at 32 verb rest verb_plain)

pub no-scan-line : (word verb rest : List ℕ) → free 32 word ≡ true → free 32 verb ≡ true
    → bytes_eq verb (codes "scan") ≡ false
    → printed_scan (word ++ 32 ∷ (verb ++ 32 ∷ rest)) ≡ None
no-scan-line word verb rest plain verb_plain other =
    ap scan_in (words-two word verb rest plain verb_plain)
    ∙ no-scan word verb (words_in rest) other

pub no-command-line : (word verb rest : List ℕ) → free 32 word ≡ true → free 32 verb ≡ true
    → bytes_eq verb (codes "command") ≡ false
    → printed_command (word ++ 32 ∷ (verb ++ 32 ∷ rest)) ≡ None
no-command-line word verb rest plain verb_plain other =
    ap command_in (words-two word verb rest plain verb_plain)
    ∙ no-command word verb (words_in rest) other

pub other-line : (word verb rest : List ℕ) → free 32 word ≡ true → free 32 verb ≡ true
    → bytes_eq verb (codes "scan") ≡ false → bytes_eq verb (codes "command") ≡ false
    → IsOther (word ++ 32 ∷ (verb ++ 32 ∷ rest))
other-line word verb rest plain verb_plain scan command = record {
  no_scan = no-scan-line word verb rest plain verb_plain scan;
  no_command = no-command-line word verb rest plain verb_plain command;
}
