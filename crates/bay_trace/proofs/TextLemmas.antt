-- A line that can be read is UTF-8.
use Rattle.std.proofs.Common.{◌≡◌, ℕ, ℤ, ◌^◌, Bool, true, false, cond, eqb, nat_lt, List, Option, option_map, option_and_then, [], ◌∷◌, length, codes, Some, None, refl, sym, subst, arith}
use Rattle.std.proofs.lemmas.Bool.Decides.{nat_tests}
use Rattle.std.proofs.lemmas.List.Splits.{join_with_byte-slice_split}
use Rattle.std.proofs.lemmas.Slice.Eq.{bytes_eq-Decides}
use Rattle.std.proofs.lemmas.Str.{IsUtf8-append, IsUtf8-from_ascii, IsUtf8-from_is_utf8}
use Rattle.std.proofs.lemmas.Str.Ascii.{IsAscii-cons, IsAscii-nil}
use Rattle.std.specs.Char.{is_ascii, is_ascii_digit}
use Rattle.std.specs.List.{join_with_byte, list_all, slice_split}
use Rattle.std.specs.Str.{all_ascii_digits, bytes_eq, IsAscii, is_utf8, IsUtf8}
use Rattle.std.proofs.lemmas.Bool.{and_parts}
use Rattle.std.specs.Prelude.{IfSome}
use Rattle.bay_trace.proofs.DigitLemmas.{hex-ascii, octets-digits}
use Rattle.bay_trace.specs.Digits.{octets_of}
use Rattle.bay_trace.proofs.WordLemmas.{chosen, none-chosen}
use Rattle.bay_trace.specs.declared.trace.TraceLine.{TraceLine}
use Rattle.bay_trace.specs.TraceView.{line_view}
use Rattle.bay_base.specs.declared.position.Dbpos.{Dbpos}
use Rattle.bay_base.specs.declared.point.MeterField.{MeterField}
use Rattle.bay_base.specs.Decimals.{negative_of, positive_of, read_number}
use Rattle.bay_trace.specs.Trace.{association_of, at_moment, disconnects, contact, event_of, input, measure, field_of, is_space, is_association_verb, LineData, measure_of, name_of, named_event_of, NamedData, only_word, connects, position_of, read_integer, received_of, receives, association_event_by_verb, trace_line_of, truth_of, words_line, measure_event_of}

-- ---- what has a value has parts that have theirs

record Parts {X Y : Type 0} (f : X → Option Y) (o : Option X) (y : Y) : Type 0 where
  part : X
  whole : o ≡ Some part
  gives : f part ≡ Some y

and_then : {X Y : Type 0} (f : X → Option Y) (o : Option X) (y : Y) → option_and_then f o ≡ Some y
    → Parts f o y
and_then f None y e = absurd cc
and_then f (Some x) y e = record { part = x; whole = refl; gives = e }

mapped : {X Y : Type 0} (f : X → Y) (o : Option X) (y : Y) → option_map f o ≡ Some y
    → (x : X) × (o ≡ Some x)
mapped f None y e = absurd cc
mapped f (Some x) y e = (x, refl)

-- ---- words of a form

abbrev is_plain : List ℕ → Bool
is_plain bs = list_all is_ascii bs

plain : (bs : List ℕ) → is_plain bs ≡ true → IsAscii bs
plain [] e = IsAscii-nil
plain (b ∷ bs) e = let both = and_parts (nat_lt b 128) (is_plain bs) e in let lt =
    both.0 in IsAscii-cons b bs (grind (arith, nat_tests)) (plain bs both.1)

pub plain-text : (bs : List ℕ) → is_plain bs ≡ true → IsUtf8 bs
plain-text bs ascii = IsUtf8-from_ascii bs (plain bs ascii)

choice : {X : Type 0} (word text : List ℕ) (x y : X) (rest : Option X) → is_plain text ≡ true
    → (rest ≡ Some y → IsUtf8 word) → cond (bytes_eq word text) (Some x) rest ≡ Some y → IsUtf8 word
choice word text x y rest ascii = chosen IsUtf8 word text x y rest (plain-text text ascii)

position_text : (word : List ℕ) (p : Dbpos) → position_of word ≡ Some p → IsUtf8 word
position_text word p e =
    choice word (codes "0") _ p _ refl
    (choice word (codes "1") _ p _ refl
    (choice word (codes "2") _ p _ refl
    (choice word (codes "3") _ p _ refl (none-chosen IsUtf8 word p)))) e

truth-text : (word : List ℕ) (v : Bool) → truth_of word ≡ Some v → IsUtf8 word
truth-text word v e =
    choice word (codes "0") _ v _ refl
    (choice word (codes "1") _ v _ refl (none-chosen IsUtf8 word v)) e

field-text : (word : List ℕ) (f : MeterField) → field_of word ≡ Some f → IsUtf8 word
field-text word f e =
    choice word (codes "TOTW") _ f _ refl
    (choice word (codes "TOTVAR") _ f _ refl (choice word (codes "HZ") _ f _ refl
    (choice word (codes "AA") _ f _ refl
    (choice word (codes "AB") _ f _ refl
    (choice word (codes "AC") _ f _ refl (none-chosen IsUtf8 word f)))))) e

digits-ascii : (bs : List ℕ) → all_ascii_digits bs ≡ true → IsAscii bs
digits-ascii [] e = IsAscii-nil
digits-ascii (b ∷ bs) e = let both = and_parts (is_ascii_digit b) (all_ascii_digits bs) e in
    let is = both.0 in IsAscii-cons b bs (grind (arith, nat_tests)) (digits-ascii bs both.1)

number-ascii : (word : List ℕ) (n : ℕ) → read_number word ≡ Some n → IsAscii word
number-ascii word n e = by_test (all_ascii_digits word) refl
  where
    by_test : (v : Bool) → all_ascii_digits word ≡ v → IsAscii word
    by_test true d = digits-ascii word d
    by_test false d = let none : None ≡ Some n = rw d at e in absurd cc

integer-text : (word : List ℕ) (z : ℤ) → read_integer word ≡ Some z → IsUtf8 word
integer-text [] z e = absurd cc
integer-text (b ∷ bs) z e = IsUtf8-from_ascii (b ∷ bs) (by_test (eqb b 45) refl)
  where
    by_test : (v : Bool) → eqb b 45 ≡ v → IsAscii (b ∷ bs)
    by_test true minus =
        let parts : Parts negative_of (read_number bs) z =
        and_then negative_of (read_number bs) z (rw minus at e) in
        IsAscii-cons b bs (grind (arith, nat_tests)) (number-ascii bs parts.part parts.whole)
    by_test false minus =
        let parts : Parts positive_of (read_number (b ∷ bs)) z =
        and_then positive_of (read_number (b ∷ bs)) z (rw minus at e) in
        number-ascii (b ∷ bs) parts.part parts.whole

association-text : (word : List ℕ) (a : ℕ) → association_of word ≡ Some a → IsUtf8 word
association-text word a e =
    let parts : Parts (λ n. cond (nat_lt n (2 ^ 16)) (Some n) None) (read_number word) a =
    and_then _ (read_number word) a e in
    IsUtf8-from_ascii word (number-ascii word parts.part parts.whole)

octets-text : (word octets : List ℕ) → octets_of word ≡ Some octets → IsUtf8 word
octets-text word octets e = IsUtf8-from_ascii word (hex-ascii word (octets-digits word octets e))

name-text : (word name : List ℕ) → name_of word ≡ Some name → IsUtf8 word
name-text [] name e = absurd cc
name-text (b ∷ bs) name e = by_test (is_utf8 (b ∷ bs)) refl
  where
    by_test : (v : Bool) → is_utf8 (b ∷ bs) ≡ v → IsUtf8 (b ∷ bs)
    by_test true is = IsUtf8-from_is_utf8 (b ∷ bs) is
    by_test false is = let none : None ≡ Some name = rw is at e in absurd cc

told-text : (id : List ℕ) (field : MeterField) (word : List ℕ) (d : NamedData)
    → measure_event_of id field word ≡ Some d → IsUtf8 word
told-text id field word d e =
    choice word (codes "bad") _ d _ refl
    (λ h. let number = mapped (measure id field) (read_integer word) d h in
    integer-text word number.0 number.1) e

-- ---- the words of a line

abbrev AreText : List (List ℕ) → Type 0
AreText [] = Unit {0}
AreText (word ∷ words) = IsUtf8 word × AreText words

only-text : {X : Type 0} (f : List ℕ → Option X) (words : List (List ℕ)) (y : X)
    → ((word : List ℕ) → f word ≡ Some y → IsUtf8 word)
    → option_and_then f (only_word words) ≡ Some y → AreText words
only-text f [] y text e = absurd cc
only-text f (word ∷ []) y text e = (text word e, tt)
only-text f (word ∷ next ∷ words) y text e = absurd cc

measure-text : (id : List ℕ) (words : List (List ℕ)) (d : NamedData) → measure_of id words ≡ Some d
    → AreText words
measure-text id [] d e = absurd cc
measure-text id (word ∷ tail) d e =
    let field : Parts (λ f. option_and_then (measure_event_of id f) (only_word tail))
    (field_of word) d =
    and_then _ (field_of word) d e in (
      field-text word field.part field.whole,
      only-text (measure_event_of id field.part) tail d (λ w h. told-text id field.part w d h)
          field.gives,
    )

-- the verb is this one, and what is behind it is text; or something is said further on
verb : (word text : List ℕ) (words : List (List ℕ)) (o rest : Option NamedData) (d : NamedData)
    → is_plain text ≡ true → (o ≡ Some d → AreText words) → (rest ≡ Some d → AreText (word ∷ words))
    → cond (bytes_eq word text) o rest ≡ Some d → AreText (word ∷ words)
verb word text words o rest d ascii here more e = by_test (bytes_eq word text) refl
  where
    by_test : (v : Bool) → bytes_eq word text ≡ v → AreText (word ∷ words)
    by_test true is = (
      subst IsUtf8 (sym ((bytes_eq-Decides word text).0 is)) (plain-text text ascii),
      here (rw is at e),
    )
    by_test false is = more (rw is at e)

position-words : (name : List ℕ) (words : List (List ℕ)) (d : NamedData)
    → option_map (contact name) (option_and_then position_of (only_word words)) ≡ Some d
    → AreText words
position-words name words d e = let p =
    mapped (contact name) (option_and_then position_of (only_word words)) d e in
    only-text position_of words p.0 (λ w h. position_text w p.0 h) p.1

truth-words : (name : List ℕ) (words : List (List ℕ)) (d : NamedData)
    → option_map (input name) (option_and_then truth_of (only_word words)) ≡ Some d → AreText words
truth-words name words d e = let v =
    mapped (input name) (option_and_then truth_of (only_word words)) d e in
    only-text truth_of words v.0 (λ w h. truth-text w v.0 h) v.1

named-text : (word name : List ℕ) (words : List (List ℕ)) (d : NamedData)
    → named_event_of word name words ≡ Some d → AreText (word ∷ words)
named-text word name words d e =
    verb word (codes "contact") words _ _ d refl (position-words name words d)
    (verb word (codes "input") words _ _ d refl (truth-words name words d)
    (verb word (codes "measure") words _ None d refl (measure-text name words d)
    (λ none. absurd cc))) e

association-words : (f : ℕ → NamedData) (words : List (List ℕ)) (d : NamedData)
    → option_map f (option_and_then association_of (only_word words)) ≡ Some d → AreText words
association-words f words d e =
    let a = mapped f (option_and_then association_of (only_word words)) d e in
    only-text association_of words a.0 (λ w h. association-text w a.0 h) a.1

received-words : (words : List (List ℕ)) (d : NamedData) → received_of words ≡ Some d
    → AreText words
received-words [] d e = absurd cc
received-words (word ∷ octets) d e =
    let a : Parts (λ a. option_map (receives a) (option_and_then octets_of (only_word octets)))
    (association_of word) d = and_then _ (association_of word) d e in
    let xs = mapped (receives a.part) (option_and_then octets_of (only_word octets)) d a.gives in (
      association-text word a.part a.whole,
      only-text octets_of octets xs.0 (λ w h. octets-text w xs.0 h) xs.1,
    )

association_event-text : (word : List ℕ) (words : List (List ℕ)) (d : NamedData)
    → association_event_by_verb word words ≡ Some d
    → AreText (word ∷ words)
association_event-text word words d e =
    verb word (codes "open") words _ _ d refl (association-words connects words d)
    (verb word (codes "close") words _ _ d refl (association-words disconnects words d)
    (verb word (codes "recv") words _ None d refl (received-words words d) (λ none. absurd cc)))
    e

event-text : (words : List (List ℕ)) (d : NamedData) → event_of words ≡ Some d → AreText words
event-text [] d e = absurd cc
event-text (word ∷ []) d e = (
  choice word (codes "scan") _ d _ refl
      (choice word (codes "lost") _ d _ refl (none-chosen IsUtf8 word d)) e,
  tt,
)
event-text (word ∷ name ∷ words) d e = by_test (is_association_verb word) refl
  where
    by_test : (v : Bool) → is_association_verb word ≡ v → AreText (word ∷ name ∷ words)
    by_test true is = association_event-text word (name ∷ words) d (rw is at e)
    by_test false is =
        let parts : Parts (λ n. named_event_of word n words) (name_of name) d =
        and_then _ (name_of name) d (rw is at e) in
        let others = named-text word parts.part words d parts.gives in
        (others.0, (name-text name parts.part parts.whole, others.1))

joined : (words : List (List ℕ)) → AreText words → IsUtf8 (join_with_byte 32 words)
joined [] h = IsUtf8-from_ascii [] IsAscii-nil
joined (word ∷ []) h = h.0
joined (word ∷ next ∷ words) h =
    IsUtf8-append word (32 ∷ join_with_byte 32 (next ∷ words)) h.0
    (IsUtf8-append (32 ∷ []) (join_with_byte 32 (next ∷ words)) (plain-text (32 ∷ []) refl)
    (joined (next ∷ words) h.1))

line-text : (words : List (List ℕ)) (l : LineData) → words_line words ≡ Some l → AreText words
line-text [] l e = absurd cc
line-text (first ∷ []) l e = absurd cc
line-text (first ∷ next ∷ words) l e = by-number (read_number first) refl
  where
    by-number : (o : Option ℕ) → read_number first ≡ o → AreText (first ∷ next ∷ words)
    by-number None r = let none : None ≡ Some l = rw r at e in absurd cc
    by-number (Some n) r =
        let event = mapped (at_moment n) (event_of (next ∷ words)) l (rw r at e) in (
          IsUtf8-from_ascii first (number-ascii first n r),
          event-text (next ∷ words) event.0 event.1,
        )

-- a line that can be read is UTF-8
line-is_text : (line : List ℕ) (l : LineData) → trace_line_of line ≡ Some l → IsUtf8 line
line-is_text [] l e = IsUtf8-from_ascii [] IsAscii-nil
line-is_text (b ∷ bs) l e =
    subst IsUtf8 (join_with_byte-slice_split 32 (b ∷ bs))
    (joined (slice_split is_space (b ∷ bs)) (line-text (slice_split is_space (b ∷ bs)) l e))

-- what is no text can't be read
pub no_text-unread : (line : List ℕ) → (IsUtf8 line → ⊥) → trace_line_of line ≡ None
no_text-unread line fails = by-line (trace_line_of line) refl
  where
    by-line : (o : Option LineData) → trace_line_of line ≡ o → trace_line_of line ≡ None
    by-line None e = e
    by-line (Some l) e = absurd (fails (line-is_text line l e))

pub read-is_text : (line : Option TraceLine) (bs : List ℕ) → eqb (length bs) 0 ≡ false
    → option_map line_view line ≡ words_line (slice_split is_space bs)
    → IfSome line (λ _. IsUtf8 bs)
read-is_text None bs some e = tt
read-is_text (Some line) [] some e = absurd (grind (arith, nat_tests))
read-is_text (Some line) (b ∷ bs) some e = line-is_text (b ∷ bs) (line_view line) (sym e)
