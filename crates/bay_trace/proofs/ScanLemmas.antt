-- Lemmas on the line of a scan.
use Rattle.std.proofs.Common.{◌≡◌, ◌≢◌, ◌∙◌, ℕ, ◌-◌, ◌<◌, ◌^◌, Bool, true, false, cond, nat_lt, List, [], ◌∷◌, ◌++◌, codes, take, length, get_or, Option, None, Some, option_map, option_and_then, refl, sym, ap, arith}
use Rattle.std.proofs.lemmas.Bool.Decides.{nat_tests}
use Rattle.std.proofs.lemmas.Fmt.{decimal-digits_value}
use Rattle.std.proofs.lemmas.Grind.{common_steps}
use Rattle.std.proofs.lemmas.List.Splits.{join_with_byte-slice_split}
use Rattle.std.proofs.lemmas.Slice.Eq.{bytes_eq-Decides}
use Rattle.std.proofs.lemmas.Str.Parse.{numerals_by_value, tells_all_ascii_digits}
use Rattle.std.specs.Fmt.{decimal}
use Rattle.std.specs.List.{join_with_byte, slice_split}
use Rattle.std.specs.Str.{all_ascii_digits, bytes_eq}
use Rattle.std.specs.Str.Parse.{digits_value}
use Rattle.bay_base.specs.Decimals.{read_number}
use Rattle.bay_trace.specs.Trace.{NamedData, association_event_by_verb, at_moment, contact, event_of, input, is_association_verb, is_space, lost, measure_of, name_of, named_event_of, only_word, position_of, scan, trace_line_of, truth_of, words_line}

-- ---- which words tell of a scan

mapped : {X : Type 0} (f : X → NamedData) (o : Option X) → ((x : X) → f x ≢ scan)
    → option_map f o ≢ Some scan
mapped f None other e = cc
mapped f (Some x) other e = other x cc

bound : {X : Type 0} (f : X → Option NamedData) (o : Option X) → ((x : X) → f x ≢ Some scan)
    → option_and_then f o ≢ Some scan
bound f None other e = cc
bound f (Some x) other e = other x e

either : (v : Bool) (x y : Option NamedData) → x ≢ Some scan → y ≢ Some scan
    → cond v x y ≢ Some scan
either true x y one other = one
either false x y one other = other

none : None ≢ Some scan
none e = cc

no-measure : (id : List ℕ) (words : List (List ℕ)) → measure_of id words ≢ Some scan
no-measure id [] e = cc
no-measure id (field ∷ tail) e = grind (arith, e)

no-named : (verb name : List ℕ) (values : List (List ℕ))
    → named_event_of verb name values ≢ Some scan
no-named verb name values =
    either (bytes_eq verb (codes "contact")) _ _
    (mapped (contact name) (option_and_then position_of (only_word values)) (λ x e. cc))
    (either (bytes_eq verb (codes "input")) _ _
    (mapped (input name) (option_and_then truth_of (only_word values)) (λ x e. cc))
    (either (bytes_eq verb (codes "measure")) _ _ (no-measure name values) none))

no-association : (verb word : List ℕ) (values : List (List ℕ))
    → association_event_by_verb verb (word ∷ values) ≢ Some scan
no-association verb word values e = grind (arith, e)

alone : (ws : List (List ℕ)) → event_of ws ≡ Some scan → ws ≡ codes "scan" ∷ []
alone [] e = absurd cc
alone (verb ∷ word ∷ values) e =
    absurd (either (is_association_verb verb) _ _ (no-association verb word values)
    (bound (λ name. named_event_of verb name values) (name_of word)
    (λ name. no-named verb name values))
    e)
alone (verb ∷ []) e = by-test (bytes_eq verb (codes "scan")) refl
  where
    by-test : (v : Bool) → bytes_eq verb (codes "scan") ≡ v → verb ∷ [] ≡ codes "scan" ∷ []
    by-test true is = ap (λ w. w ∷ []) ((bytes_eq-Decides verb (codes "scan")).0 is)
    by-test false is =
        absurd (either (bytes_eq verb (codes "lost")) (Some lost) None (λ f. cc) none
        (rw is at e))

-- ---- the digits of its moment

-- the words of a scan's line
pub record Scanned (line : List ℕ) (n : ℕ) : Type 0 where
  pub word : List ℕ
  pub whole : line ≡ word ++ codes " scan"
  pub read : read_number word ≡ Some n

scan-words : (line : List ℕ) (n : ℕ) (ws : List (List ℕ)) → slice_split is_space line ≡ ws
    → words_line ws ≡ Some (at_moment n scan) → Scanned line n
scan-words line n [] split e = absurd cc
scan-words line n (word ∷ []) split e = absurd cc
scan-words line n (word ∷ next ∷ ws) split e = by-number (read_number word) refl e
  where
    by-event : (k : ℕ) (o : Option NamedData) → read_number word ≡ Some k
        → event_of (next ∷ ws) ≡ o → option_map (at_moment k) o ≡ Some (at_moment n scan)
        → Scanned line n
    by-event k None is tail f = absurd cc
    by-event k (Some named) is tail f =
        let scans : event_of (next ∷ ws) ≡ Some scan = cc in
        let same : k ≡ n = cc in
        record {
          word = word;
          whole = sym (join_with_byte-slice_split 32 line)
              ∙ ap (join_with_byte 32) (split ∙ ap (λ l. word ∷ l) (alone (next ∷ ws) scans));
          read = is ∙ ap Some same;
        }

    by-number : (o : Option ℕ) → read_number word ≡ o
        → option_and_then (λ (cut : ℕ × List (List ℕ)). option_map (at_moment cut.0)
        (event_of cut.1))
        (option_map (λ k. (k, next ∷ ws)) o) ≡ Some (at_moment n scan)
        → Scanned line n
    by-number None is f = absurd cc
    by-number (Some k) is f = by-event k (event_of (next ∷ ws)) is refl f

scanned : (line : List ℕ) (n : ℕ) → trace_line_of line ≡ Some (at_moment n scan) → Scanned line n
scanned [] n e = absurd cc
scanned (b ∷ bs) n e = scan-words (b ∷ bs) n (slice_split is_space (b ∷ bs)) refl e

-- digits are what their number is written with, if no needless 0 stands first
number-digits : (word : List ℕ) (n : ℕ) → read_number word ≡ Some n
    → (0 < length word) × (get_or word 0 0 ≢ 48 → word ≡ decimal n)
number-digits word n e =
    by-tests (all_ascii_digits word) (nat_lt 0 (length word))
    (nat_lt (digits_value 10 word) (2 ^ 64)) refl refl refl
  where
    by-tests : (u v w : Bool) → all_ascii_digits word ≡ u → nat_lt 0 (length word) ≡ v
        → nat_lt (digits_value 10 word) (2 ^ 64) ≡ w
        → (0 < length word) × (get_or word 0 0 ≢ 48 → word ≡ decimal n)
    by-tests false v w a b c = let no : None ≡ Some n = rw a at e in absurd cc
    by-tests true false w a b c = let no : None ≡ Some n = rw (a, b) at e in absurd cc
    by-tests true true false a b c = let no : None ≡ Some n = rw (a, b, c) at e in absurd cc
    by-tests true true true a b c =
        let is : Some (digits_value 10 word) ≡ Some n = rw (a, b, c) at e in
        let same : digits_value 10 word ≡ n = cc in
        let some : 0 < length word = grind (arith, nat_tests) in (
          some,
          λ other. sym (decimal-digits_value (numerals_by_value _ tells_all_ascii_digits) word
              a some (λ z. absurd (other z)) (grind (arith, nat_tests))) ∙ ap decimal same,
        )

-- the line of a scan but its last five octets
pub scan-digits : (line digits : List ℕ) (n : ℕ) → digits ≡ take (length line - 5) line
    → trace_line_of line ≡ Some (at_moment n scan) → get_or line 0 0 ≢ 48 → digits ≡ decimal n
scan-digits line digits n is e other =
    let s = scanned line n e in
    let shown = number-digits s.word n s.read in
    let same : digits ≡ s.word = grind (arith, common_steps, is, s.whole) in
    let first : get_or s.word 0 0 ≢ 48 =
    λ z. other (grind (arith, common_steps, z, s.whole, shown.0)) in
    same ∙ shown.1 first
