-- Lemmas on the line of an event: it is read as what it tells.
use Rattle.std.proofs.Common.{◌≡◌, ◌∙◌, ℕ, ◌+◌, ◌<◌, ◌^◌, Bool, true, false, nat_lt, List, [], ◌∷◌, ◌++◌, codes, take, length, Option, None, Some, option_map, option_and_then, refl, sym, ap, arith, append_assoc, length-append}
use Rattle.std.proofs.lemmas.Bool.Decides.{nat_tests}
use Rattle.std.proofs.lemmas.Fmt.{decimal_is_IsNumeral, digits_decimal}
use Rattle.std.proofs.lemmas.List.Elements.{All-cons}
use Rattle.std.proofs.lemmas.List.Splits.{slice_split_at, slice_split_first, slice_split_none}
use Rattle.std.proofs.lemmas.Str.Parse.{numerals_by_value, tells_all_ascii_digits}
use Rattle.std.specs.Char.{is_ascii_digit}
use Rattle.std.specs.Fmt.{decimal}
use Rattle.std.specs.List.{All, position_or_len, slice_split}
use Rattle.std.specs.Str.{all_ascii_digits}
use Rattle.std.specs.Str.Parse.{digits_value}
use Rattle.hex.specs.Hex.{IsBytes, encode_lower, encode_with}
use Rattle.hex.proofs.HexLemmas.{decode_of-encode_lower}
use Rattle.bay_base.specs.Decimals.{read_number}
use Rattle.bay_device.specs.Device.{State}
use Rattle.bay_device.specs.declared.event.Event.{Event}
use Rattle.bay_device.specs.declared.event.Event.TheVariants.{Open, Recv, Close, Contact, Input, Measure, BadMeasure, Lost, Scan}
use Rattle.bay_trace.specs.Digits.{octets_of}
use Rattle.bay_trace.specs.Recording.{IsReadAs, IsRecordable, SpellsEvent, text_after_moment, event_line}
use Rattle.bay_trace.specs.Trace.{NamedData, association_of, at_moment, connects, disconnects, event_of, is_space, lost, receives, scan, trace_line_of, words_line}
use Rattle.bay_trace.proofs.VerbLemmas.{alone-octets}
use Rattle.bay_trace.proofs.WordLemmas.{no-space, not-space}

-- ---- numbers

are-digits : (n : ℕ) → n < 2 ^ 64 → all_ascii_digits (decimal n) ≡ true
are-digits n less = digits_decimal (numerals_by_value _ tells_all_ascii_digits) n less

number-read : (n : ℕ) → n < 2 ^ 64 → read_number (decimal n) ≡ Some n
number-read n less =
    let some : nat_lt 0 (length (decimal n)) ≡ true =
    let has = (decimal_is_IsNumeral n less).0.0 in grind (arith, nat_tests) in
    let value : digits_value 10 (decimal n) ≡ n = (decimal_is_IsNumeral n less).1 in
    let small : nat_lt n (2 ^ 64) ≡ true = grind (arith, nat_tests) in
    rw (are-digits n less, some, value, small) refl

digits-free : (ds : List ℕ) → all_ascii_digits ds ≡ true → All (λ b. is_space b ≡ false) ds
digits-free [] e = λ k b m. absurd (omega arith)
digits-free (d ∷ ds) e = by_first (digits-free ds) (is_ascii_digit d) refl
  where
    by_first : (all_ascii_digits ds ≡ true → All (λ b. is_space b ≡ false) ds) → (v : Bool)
        → is_ascii_digit d ≡ v → All (λ b. is_space b ≡ false) (d ∷ ds)
    by_first more true is =
        All-cons (λ b. is_space b ≡ false) d ds (not-space d is) (more (rw is at e))
    by_first more false is = let no : false ≡ true = rw is at e in absurd cc

number-split : (n : ℕ) (rest : List ℕ) → n < 2 ^ 64
    → slice_split is_space (decimal n ++ 32 ∷ rest) ≡ decimal n ∷ slice_split is_space rest
number-split n rest less =
    slice_split_at is_space (decimal n) 32 rest (digits-free (decimal n) (are-digits n less)) refl

number-word : (n : ℕ) → n < 2 ^ 64 → slice_split is_space (decimal n) ≡ decimal n ∷ []
number-word n less =
    slice_split_none is_space (decimal n) (digits-free (decimal n) (are-digits n less))

association-read : (a : ℕ) → a < 2 ^ 16 → association_of (decimal a) ≡ Some a
association-read a less =
    let small : nat_lt a (2 ^ 16) ≡ true = grind (arith, nat_tests) in
    rw (number-read a (omega (arith, less)), small) refl

-- ---- lines

split-line : (line : List ℕ) → 0 < length line
    → trace_line_of line ≡ words_line (slice_split is_space line)
split-line [] l = absurd (omega arith)
split-line (b ∷ bs) l = refl

-- what stands behind a moment is read as it is alone
line-read : (now : ℕ) (rest : List ℕ) (named : NamedData) → now < 2 ^ 64
    → event_of (slice_split is_space rest) ≡ Some named
    → trace_line_of (decimal now ++ 32 ∷ rest) ≡ Some (at_moment now named)
line-read now rest named less tail =
    let n : length (decimal now ++ 32 ∷ rest) ≡ length (decimal now) + length (32 ∷ rest) =
    length-append (decimal now) (32 ∷ rest) in
    let has = (decimal_is_IsNumeral now less).0.0 in
    split-line (decimal now ++ 32 ∷ rest) (omega (arith, n, has))
    ∙ ap words_line (number-split now rest less) ∙ by-words (slice_split is_space rest) tail
  where
    by-words : (ws : List (List ℕ)) → event_of ws ≡ Some named
        → words_line (decimal now ∷ ws) ≡ Some (at_moment now named)
    by-words [] e = absurd cc
    by-words (w ∷ ws) e = rw (number-read now less, e) refl

-- and so it was told at any moment
behind-read : (line : List ℕ) (t : ℕ) (named : NamedData)
    → trace_line_of line ≡ Some (at_moment t named)
    → event_of (slice_split is_space (text_after_moment line)) ≡ Some named
behind-read [] t named read = absurd cc
behind-read (b ∷ bs) t named read =
    by_test (nat_lt (position_or_len is_space line) (length line)) refl
  where
    line : List ℕ
    line = b ∷ bs

    by-event : (n : ℕ) (o : Option NamedData)
        → option_map (at_moment n) o ≡ Some (at_moment t named) → o ≡ Some named
    by-event n None e = absurd cc
    by-event n (Some m) e = let same : m ≡ named = cc in ap Some same

    by-number : (o : Option ℕ) (ws : List (List ℕ))
        → option_and_then (λ (cut : ℕ × List (List ℕ)). option_map (at_moment cut.0)
        (event_of cut.1))
        (option_map (λ n. (n, ws)) o) ≡ Some (at_moment t named)
        → event_of ws ≡ Some named
    by-number None ws e = absurd cc
    by-number (Some n) ws e = by-event n (event_of ws) e

    by-words : (w : List ℕ) (ws : List (List ℕ)) → words_line (w ∷ ws) ≡ Some (at_moment t named)
        → event_of ws ≡ Some named
    by-words w [] e = absurd cc
    by-words w (next ∷ ws) e = by-number (read_number w) (next ∷ ws) e

    by_test : (v : Bool) → nat_lt (position_or_len is_space line) (length line) ≡ v
        → event_of (slice_split is_space (text_after_moment line)) ≡ Some named
    by_test true l =
        by-words (take (position_or_len is_space line) line)
        (slice_split is_space (text_after_moment line))
        (sym (ap words_line (slice_split_first is_space line 0 (grind (arith, nat_tests)))) ∙ read)
    by_test false l =
        let alone = no-space line (rw l refl) in
        let none : None ≡ Some (at_moment t named) = sym (ap words_line alone) ∙ read in absurd cc

-- a line with these words behind its moment
spaced : (now : ℕ) (rest : List ℕ)
    → decimal now ++ codes " " ++ rest ≡ decimal now ++ 32 ∷ rest
spaced now rest = append_assoc (decimal now) (codes " ") rest

spaced-octets : (moment number digits : List ℕ)
    → moment ++ codes " recv " ++ number ++ codes " " ++ digits
    ≡ moment ++ 32 ∷ (codes "recv " ++ (number ++ 32 ∷ digits))
spaced-octets moment number digits =
    append_assoc (moment ++ codes " recv " ++ number) (codes " ") digits
    ∙ append_assoc (moment ++ codes " recv ") number (32 ∷ digits)
    ∙ append_assoc moment (codes " recv ") (number ++ 32 ∷ digits)

-- ---- events

opened-told : (a : ℕ) → a < 2 ^ 16
    → event_of (slice_split is_space (codes "open " ++ decimal a)) ≡ Some (connects a)
opened-told a less =
    rw (number-word a (omega (arith, less)), association-read a less) refl

closed-told : (a : ℕ) → a < 2 ^ 16
    → event_of (slice_split is_space (codes "close " ++ decimal a)) ≡ Some (disconnects a)
closed-told a less =
    rw (number-word a (omega (arith, less)), association-read a less) refl

octets-read : (octets : List ℕ) → IsBytes octets → 0 < length octets
    → octets_of (encode_lower octets) ≡ Some octets
unfolding encode_with
octets-read [] bytes some = absurd (omega (arith, some))
octets-read (b ∷ bs) bytes some = rw (decode_of-encode_lower (b ∷ bs) bytes) refl

received-told : (a : ℕ) (octets : List ℕ) → a < 2 ^ 16 → IsBytes octets → 0 < length octets
    → event_of (slice_split is_space (codes "recv " ++ (decimal a ++ 32 ∷ encode_lower octets)))
    ≡ Some (receives a octets)
received-told a octets less bytes some =
    rw (
      number-split a (encode_lower octets) (omega (arith, less)),
      association-read a less,
      alone-octets (encode_lower octets),
      octets-read octets bytes some,
    ) refl

said-read : (s : State) (now : ℕ) (source : List ℕ) (event : Event)
    (tells : SpellsEvent s source event)
    → now < 2 ^ 64
    → trace_line_of (decimal now ++ codes " " ++ text_after_moment source)
    ≡ Some (at_moment now tells.named)
said-read s now source event tells less =
    ap trace_line_of (spaced now (text_after_moment source))
    ∙ line-read now (text_after_moment source) tells.named less
    (behind-read source tells.moment tells.named tells.read)

-- each line is read as what tells of its event
pub event-read : (s : State) (now : ℕ) (source : List ℕ) (event : Event) → now < 2 ^ 64
    → IsRecordable s source event → IsReadAs s (event_line now source event) now event
event-read s now source (Open a) less is = record {
  named = connects a;
  read =
      ap trace_line_of (append_assoc (decimal now) (codes " open ") (decimal a))
      ∙ line-read now (codes "open " ++ decimal a) (connects a) less (opened-told a is);
  resolved = refl;
}
event-read s now source (Recv a octets) less is = record {
  named = receives a octets.now;
  read =
      ap trace_line_of (spaced-octets (decimal now) (decimal a) (encode_lower octets.now))
      ∙ line-read now (codes "recv " ++ (decimal a ++ 32 ∷ encode_lower octets.now))
      (receives a octets.now) less (received-told a octets.now is.0 is.1 is.2);
  resolved = refl;
}
event-read s now source (Close a) less is = record {
  named = disconnects a;
  read =
      ap trace_line_of (append_assoc (decimal now) (codes " close ") (decimal a))
      ∙ line-read now (codes "close " ++ decimal a) (disconnects a) less (closed-told a is);
  resolved = refl;
}
event-read s now source (Contact k position) less is = record {
  named = is.named;
  read = said-read s now source (Contact k position) is less;
  resolved = is.resolved;
}
event-read s now source (Input k value) less is = record {
  named = is.named;
  read = said-read s now source (Input k value) is less;
  resolved = is.resolved;
}
event-read s now source (Measure k field value) less is = record {
  named = is.named;
  read = said-read s now source (Measure k field value) is less;
  resolved = is.resolved;
}
event-read s now source (BadMeasure k field) less is = record {
  named = is.named;
  read = said-read s now source (BadMeasure k field) is less;
  resolved = is.resolved;
}
event-read s now source Lost less is = record {
  named = lost;
  read = line-read now (codes "lost") lost less refl;
  resolved = refl;
}
event-read s now source Scan less is = record {
  named = scan;
  read = line-read now (codes "scan") scan less refl;
  resolved = refl;
}
