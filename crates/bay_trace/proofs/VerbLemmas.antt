-- Lemmas on what stands behind a verb: a word that is told stands alone.
use Rattle.std.proofs.Common.{◌≡◌, ◌≢◌, ℕ, ℤ, ◌++◌, ◌||◌, Bool, true, false, cond, eqb, List, Option, option_map, option_and_then, [], ◌∷◌, codes, Some, None, refl, sym, ap, ap₂, ◌∙◌, arith}
use Rattle.std.proofs.lemmas.Bool.{and_parts}
use Rattle.std.proofs.lemmas.Bool.Decides.{nat_tests}
use Rattle.std.proofs.lemmas.List.Splits.{join_with_byte-slice_split, slice_split-cons_no}
use Rattle.std.proofs.lemmas.Slice.Eq.{bytes_eq-Decides}
use Rattle.std.specs.Char.{is_ascii_digit}
use Rattle.std.specs.List.{join_with_byte, slice_split, onto_first}
use Rattle.std.specs.Str.{all_ascii_digits, bytes_eq}
use Rattle.bay_base.specs.declared.position.Dbpos.{Dbpos}
use Rattle.bay_base.specs.declared.point.MeterField.{MeterField}
use Rattle.bay_base.specs.Decimals.{negative_of, positive_of, read_number}
use Rattle.bay_trace.specs.Trace.{association_of, connects, disconnects, is_space, is_association_verb, association_event_in, association_event_by_verb, only_word, read_integer, position_of, truth_of, NamedData, measure_event_of, measure, lost, scan, name_of, named_event_of, event_of}
use Rattle.std.proofs.lemmas.List.Elements.{All-head, All-tail}
use Rattle.std.specs.List.{AllPass}
use Rattle.hex.specs.Hex.{is_hex_digit}
use Rattle.bay_trace.specs.Digits.{octets_of}
use Rattle.bay_trace.proofs.DigitLemmas.{octets-digits}
use Rattle.bay_trace.proofs.WordLemmas.{chosen, none-chosen, not-space}

-- a text without a space is one word
abbrev pub IsWord : List ℕ → Type 0
IsWord bs = slice_split is_space bs ≡ bs ∷ []

position-word : (word : List ℕ) (p : Dbpos) → position_of word ≡ Some p → IsWord word
position-word word p e =
    chosen IsWord word (codes "0") _ p _ refl
    (chosen IsWord word (codes "1") _ p _ refl
    (chosen IsWord word (codes "2") _ p _ refl
    (chosen IsWord word (codes "3") _ p _ refl (none-chosen IsWord word p)))) e

truth-word : (word : List ℕ) (v : Bool) → truth_of word ≡ Some v → IsWord word
truth-word word v e =
    chosen IsWord word (codes "0") _ v _ refl
    (chosen IsWord word (codes "1") _ v _ refl (none-chosen IsWord word v)) e

digits-word : (bs : List ℕ) → all_ascii_digits bs ≡ true → IsWord bs
digits-word [] e = refl
digits-word (b ∷ bs) e = let both = and_parts (is_ascii_digit b) (all_ascii_digits bs) e in
    slice_split-cons_no is_space b bs (not-space b both.0)
    ∙ ap (onto_first b) (digits-word bs both.1)

number-word : (word : List ℕ) (n : ℕ) → read_number word ≡ Some n → IsWord word
number-word word n e = by_test (all_ascii_digits word) refl
  where
    by_test : (v : Bool) → all_ascii_digits word ≡ v → IsWord word
    by_test true d = digits-word word d
    by_test false d = let none : None ≡ Some n = rw d at e in absurd cc

integer-word : (word : List ℕ) (z : ℤ) → read_integer word ≡ Some z → IsWord word
integer-word [] z e = absurd cc
integer-word (b ∷ bs) z e = by_test (eqb b 45) refl
  where
    read : (f : ℕ → Option ℤ) (ds : List ℕ) → option_and_then f (read_number ds) ≡ Some z
        → IsWord ds
    read f ds h = by-number (read_number ds) refl
      where
        by-number : (o : Option ℕ) → read_number ds ≡ o → IsWord ds
        by-number None r = let none : None ≡ Some z = rw r at h in absurd cc
        by-number (Some n) r = number-word ds n r

    by_test : (v : Bool) → eqb b 45 ≡ v → IsWord (b ∷ bs)
    by_test true minus =
        let space : is_space b ≡ false = grind (arith, nat_tests) in
        slice_split-cons_no is_space b bs space
        ∙ ap (onto_first b) (read negative_of bs (rw minus at e))
    by_test false minus = read positive_of (b ∷ bs) (rw minus at e)

told-word : (id : List ℕ) (field : MeterField) (word : List ℕ) (y : NamedData)
    → measure_event_of id field word ≡ Some y → IsWord word
told-word id field word y e =
    chosen IsWord word (codes "bad") _ y _ refl (λ h. by-value (read_integer word) refl h) e
  where
    by-value : (o : Option ℤ) → read_integer word ≡ o
        → option_map (measure id field) (read_integer word) ≡ Some y → IsWord word
    by-value None r h = let none : None ≡ Some y = rw r at h in absurd cc
    by-value (Some z) r h = integer-word word z r

association-word : (word : List ℕ) (a : ℕ) → association_of word ≡ Some a → IsWord word
association-word word a e = by-number (read_number word) refl
  where
    by-number : (o : Option ℕ) → read_number word ≡ o → IsWord word
    by-number None r = let none : None ≡ Some a = rw r at e in absurd cc
    by-number (Some n) r = number-word word n r

hex-word : (bs : List ℕ) → AllPass is_hex_digit bs → IsWord bs
hex-word [] h = refl
hex-word (b ∷ bs) h =
    let digit : is_hex_digit b ≡ true = All-head (λ c. is_hex_digit c ≡ true) b bs h in
    let space : is_space b ≡ false = grind (arith, nat_tests) in
    slice_split-cons_no is_space b bs space
    ∙ ap (onto_first b) (hex-word bs (All-tail (λ c. is_hex_digit c ≡ true) b bs h))

octets-word : (word octets : List ℕ) → octets_of word ≡ Some octets → IsWord word
octets-word word octets e = hex-word word (octets-digits word octets e)

-- what says something only of one word says of a text what it says of the word that stands alone
-- there
alone-tells : {X : Type 0} (f : List ℕ → Option X) (bs : List ℕ)
    → ((y : X) → f bs ≡ Some y → IsWord bs)
    → option_and_then f (only_word (slice_split is_space bs)) ≡ f bs
alone-tells {X = X} f bs word = by-told (f bs) refl
  where
    by-words : (ws : List (List ℕ)) → slice_split is_space bs ≡ ws → f bs ≡ None
        → option_and_then f (only_word ws) ≡ f bs
    by-words [] e none = sym none
    by-words (w ∷ []) e none =
        ap f (ap (join_with_byte 32) (sym e) ∙ join_with_byte-slice_split 32 bs)
    by-words (w ∷ next ∷ ws) e none = sym none

    by-told : (o : Option X) → f bs ≡ o
        → option_and_then f (only_word (slice_split is_space bs)) ≡ f bs
    by-told None tail = by-words (slice_split is_space bs) refl tail
    by-told (Some y) tail = ap (λ ws. option_and_then f (only_word ws)) (word y tail)

pub alone-position : (bs : List ℕ)
    → option_and_then position_of (only_word (slice_split is_space bs)) ≡ position_of bs
alone-position bs = alone-tells position_of bs (position-word bs)

pub alone-truth : (bs : List ℕ)
    → option_and_then truth_of (only_word (slice_split is_space bs)) ≡ truth_of bs
alone-truth bs = alone-tells truth_of bs (truth-word bs)

pub alone-told : (id : List ℕ) (field : MeterField) (bs : List ℕ)
    → option_and_then (measure_event_of id field) (only_word (slice_split is_space bs))
    ≡ measure_event_of id field bs
alone-told id field bs = alone-tells (measure_event_of id field) bs (told-word id field bs)

pub alone-association : (bs : List ℕ)
    → option_and_then association_of (only_word (slice_split is_space bs)) ≡ association_of bs
alone-association bs = alone-tells association_of bs (association-word bs)

pub alone-octets : (bs : List ℕ)
    → option_and_then octets_of (only_word (slice_split is_space bs)) ≡ octets_of bs
alone-octets bs = alone-tells octets_of bs (octets-word bs)

-- a text that doesn't begin with a word and a space has another first word
other : (text word verb rest : List ℕ) → ((r : List ℕ) → text ≢ verb ++ 32 ∷ r)
    → text ≡ word ++ 32 ∷ rest → bytes_eq word verb ≡ false
other text word verb rest h e = by_test (bytes_eq word verb) refl
  where
    by_test : (v : Bool) → bytes_eq word verb ≡ v → bytes_eq word verb ≡ false
    by_test true is =
        absurd (h rest (e ∙ ap (λ w. w ++ 32 ∷ rest) ((bytes_eq-Decides word verb).0 is)))
    by_test false is = is

unsaid : {X : Type 0} (o : Option (List ℕ)) (f : List ℕ → Option X)
    → ((name : List ℕ) → f name ≡ None) → option_and_then f o ≡ None
unsaid None f h = refl
unsaid (Some name) f h = h name

is-not : (text word : List ℕ) → text ≢ word → bytes_eq text word ≡ false
is-not text word h = by_test (bytes_eq text word) refl
  where
    by_test : (v : Bool) → bytes_eq text word ≡ v → bytes_eq text word ≡ false
    by_test true is = absurd (h ((bytes_eq-Decides text word).0 is))
    by_test false is = is

none-of : {X : Type 0} (u v w : Bool)
    → ◌≡◌ {A = Option X} (cond u None (cond v None (cond w None None))) None
none-of true v w = refl
none-of false true w = refl
none-of false false true = refl
none-of false false false = refl

-- nothing is told of an association by a word alone
association-alone : (word : List ℕ) → association_event_by_verb word [] ≡ None
association-alone word =
    none-of (bytes_eq word (codes "open")) (bytes_eq word (codes "close"))
    (bytes_eq word (codes "recv"))

-- a verb of none of three
not-of : {X : Type 0} (u v w : Bool) (x y z : Option X) → (u || (v || w)) ≡ false
    → cond u x (cond v y (cond w z None)) ≡ None
not-of true v w x y z e = absurd cc
not-of false true w x y z e = absurd cc
not-of false false true x y z e = absurd cc
not-of false false false x y z e = refl

no-association : (verb : List ℕ) (words : List (List ℕ)) → is_association_verb verb ≡ false
    → association_event_by_verb verb words ≡ None
no-association verb words e =
    not-of (bytes_eq verb (codes "open")) (bytes_eq verb (codes "close"))
    (bytes_eq verb (codes "recv")) _ _ _ e

-- a text that is neither `scan` nor `lost`, and that begins with no verb before a name and a space,
-- says what it says of an association
pub no-verb : (text : List ℕ) → ((r : List ℕ) → text ≢ codes "contact " ++ r)
    → ((r : List ℕ) → text ≢ codes "input " ++ r) → ((r : List ℕ) → text ≢ codes "measure " ++ r)
    → text ≢ codes "scan" → text ≢ codes "lost"
    → event_of (slice_split is_space text) ≡ association_event_in (slice_split is_space text)
no-verb text no_contact no_input no_measure no_scan no_lost =
    by-words (slice_split is_space text) (join_with_byte-slice_split 32 text)
  where
    by-words : (ws : List (List ℕ)) → join_with_byte 32 ws ≡ text
        → event_of ws ≡ association_event_in ws
    by-words [] e = refl
    by-words (word ∷ []) e =
        ap (λ w. cond (bytes_eq w (codes "scan")) (Some scan)
        (cond (bytes_eq w (codes "lost")) (Some lost) None)) e
        ∙ ap₂ (λ u v. cond u (Some scan) (cond v (Some lost) None))
        (is-not text (codes "scan") no_scan) (is-not text (codes "lost") no_lost)
        ∙ sym (association-alone word)
    by-words (verb ∷ word ∷ values) e = by_test (is_association_verb verb) refl
      where
        by_test : (v : Bool) → is_association_verb verb ≡ v
            → event_of (verb ∷ word ∷ values) ≡ association_event_by_verb verb (word ∷ values)
        by_test true is = rw is refl
        by_test false is =
            let rest = join_with_byte 32 (word ∷ values) in
            let a = other text verb (codes "contact") rest no_contact (sym e) in
            let b = other text verb (codes "input") rest no_input (sym e) in
            let d = other text verb (codes "measure") rest no_measure (sym e) in
            ap (λ v. cond v (association_event_by_verb verb (word ∷ values))
            (option_and_then (λ name. named_event_of verb name values) (name_of word))) is
            ∙ unsaid (name_of word) (λ name. named_event_of verb name values)
            (λ name. rw (a, b, d) refl)
            ∙ sym (no-association verb (word ∷ values) is)

-- a text that begins with no verb before an association and a space says nothing of one
pub no-association-verb : (text : List ℕ) → ((r : List ℕ) → text ≢ codes "recv " ++ r)
    → ((r : List ℕ) → text ≢ codes "open " ++ r) → ((r : List ℕ) → text ≢ codes "close " ++ r)
    → association_event_in (slice_split is_space text) ≡ None
no-association-verb text no_recv no_open no_close =
    by-words (slice_split is_space text) (join_with_byte-slice_split 32 text)
  where
    by-words : (ws : List (List ℕ)) → join_with_byte 32 ws ≡ text → association_event_in ws ≡ None
    by-words [] e = refl
    by-words (word ∷ []) e = association-alone word
    by-words (verb ∷ word ∷ values) e =
        let rest = join_with_byte 32 (word ∷ values) in
        let a = other text verb (codes "open") rest no_open (sym e) in
        let b = other text verb (codes "close") rest no_close (sym e) in
        let d = other text verb (codes "recv") rest no_recv (sym e) in
        rw (a, b, d) refl

-- what is told behind `open`, and behind `close`
pub open-told : (text word : List ℕ) (o : Option ℕ) → text ≡ codes "open " ++ word
    → o ≡ association_of word
    → option_map connects o ≡ association_event_in (slice_split is_space text)
open-told text word o e tail =
    sym (ap (λ t. association_event_in (slice_split is_space t)) e
    ∙ ap (option_map connects) (alone-association word ∙ sym tail))

pub close-told : (text word : List ℕ) (o : Option ℕ) → text ≡ codes "close " ++ word
    → o ≡ association_of word
    → option_map disconnects o ≡ association_event_in (slice_split is_space text)
close-told text word o e tail =
    sym (ap (λ t. association_event_in (slice_split is_space t)) e
    ∙ ap (option_map disconnects) (alone-association word ∙ sym tail))

-- octets that compare as different differ
pub differs : (xs ys : List ℕ) → bytes_eq xs ys ≡ false → xs ≢ ys
differs xs ys other e = let yes = (bytes_eq-Decides xs ys).1 e in absurd cc
