-- Lines of a supervised process, and what they are as lines of a trace.
use Rattle.std.proofs.Common.{◌≡◌, ℕ, ◌-◌, Bool, true, false, ◌&&◌, nat_eq, if◌then◌else◌, List, [], ◌∷◌, ◌++◌, codes, length, take, drop, Option, None, Some, option_and_then, option_map, refl, sym, ap, ◌∙◌, take-append-drop}
use Rattle.std.proofs.lemmas.Bool.{and_parts}
use Rattle.std.proofs.lemmas.List.Splits.{slice_split-cons_no, slice_split-cons_yes}
use Rattle.std.specs.Char.{is_ascii_digit}
use Rattle.std.specs.Cmp.Lexicographic.{bytes_decides, pointwise}
use Rattle.std.specs.List.{onto_first, slice_split}
use Rattle.std.specs.Str.{all_ascii_digits}
use Rattle.bay_base.specs.Decimals.{read_number}
use Rattle.bay_device.specs.Device.{State}
use Rattle.bay_trace.specs.Trace.{LineData, NamedData, at_moment, blank, connects, receives, disconnects, contact, input, measure, bad_measure, lost, scan, event_of, first_number, is_space, process_of, trace_line_of, words_line}
use Rattle.bay_trace.proofs.WordLemmas.{not-space}
use Rattle.bay_server_turn.specs.Served.{process_event, event_in_line}
use Rattle.bay_server_turn.specs.Supervised.{alive_at, happened_at, text_without_end, timed_by, timed_event, timed_line_of}
use Rattle.bay_server_turn.specs.declared.process_input.ProcessEvent.{ProcessEvent}
use Rattle.bay_server_turn.specs.declared.supervised.TimedLine.{TimedLine}

-- ---- ends that are stripped

-- what a stripped text was
pub stripped-is : (end text rest : List ℕ) → text_without_end end text ≡ Some rest
    → text ≡ rest ++ end
stripped-is end text rest e =
    by-end (pointwise nat_eq (drop (length text - length end) text) end) refl e
  where
    n : ℕ
    n = length text - length end

    by-end : (v : Bool) → pointwise nat_eq (drop n text) end ≡ v
        → (if v then Some (take n text) else None) ≡ Some rest → text ≡ rest ++ end
    by-end true same is =
        let front : take n text ≡ rest = cc in
        let back : drop n text ≡ end = (bytes_decides (drop n text) end).0 same in
        sym (take-append-drop n text) ∙ ap (λ l. l ++ drop n text) front
        ∙ ap (λ l. rest ++ l) back
    by-end false same is = absurd cc

-- ---- a moment in front of a line

pub number-digits : (digits : List ℕ) (n : ℕ) → read_number digits ≡ Some n
    → all_ascii_digits digits ≡ true
number-digits digits n e = by-test (all_ascii_digits digits) refl
  where
    by-test : (v : Bool) → all_ascii_digits digits ≡ v → all_ascii_digits digits ≡ true
    by-test true d = d
    by-test false d = let none : None ≡ Some n = rw d at e in absurd cc

digits-first : (digits rest : List ℕ) → all_ascii_digits digits ≡ true
    → slice_split is_space (digits ++ 32 ∷ rest) ≡ digits ∷ slice_split is_space rest
digits-first [] rest e = slice_split-cons_yes is_space 32 rest refl
digits-first (b ∷ bs) rest e =
    let both = and_parts (is_ascii_digit b) (all_ascii_digits bs) e in
    slice_split-cons_no is_space b (bs ++ 32 ∷ rest) (not-space b both.0)
    ∙ ap (onto_first b) (digits-first bs rest both.1)

some-line : (digits rest : List ℕ)
    → trace_line_of (digits ++ 32 ∷ rest)
    ≡ words_line (slice_split is_space (digits ++ 32 ∷ rest))
some-line [] rest = refl
some-line (b ∷ bs) rest = refl

-- words that tell of no event make no line
no-event : (digits word : List ℕ) (words : List (List ℕ)) → event_of (word ∷ words) ≡ None
    → words_line (digits ∷ word ∷ words) ≡ None
no-event digits word words none = by-number (read_number digits)
  where
    by-number : (o : Option ℕ)
        → option_and_then
        (λ (cut : ℕ × List (List ℕ)). option_map (at_moment cut.0) (event_of cut.1))
        (option_map (λ n. (n, word ∷ words)) o) ≡ None
    by-number None = refl
    by-number (Some n) = ap (option_map (at_moment n)) none

-- a line whose words are no event tells nothing
pub unread : (s : State) (digits rest word : List ℕ) (words : List (List ℕ))
    → all_ascii_digits digits ≡ true → slice_split is_space rest ≡ word ∷ words
    → event_of (word ∷ words) ≡ None → event_in_line s (digits ++ 32 ∷ rest) ≡ None
unread s digits rest word words number cut none =
    ap (λ line. option_and_then (process_event s) (process_of line))
    (some-line digits rest ∙ ap words_line (digits-first digits rest number)
    ∙ ap (λ ws. words_line (digits ∷ ws)) cut ∙ no-event digits word words none)

-- ---- a process that lives

alive-untold : (s : State) (digits : List ℕ) → all_ascii_digits digits ≡ true
    → event_in_line s (digits ++ codes " alive") ≡ None
alive-untold s digits number =
    unread s digits (codes "alive") (codes "alive") [] number refl refl

-- ---- later lines

named-told : (s : State) (named : NamedData) (event : ProcessEvent)
    → process_event s named ≡ Some event
    → option_and_then (process_event s) (process_of (Some (at_moment 0 named))) ≡ Some event
named-told s (connects a) event e = absurd cc
named-told s (receives a octets) event e = absurd cc
named-told s (disconnects a) event e = absurd cc
named-told s (contact id position) event e = e
named-told s (input name value) event e = e
named-told s (measure id field value) event e = e
named-told s (bad_measure id field) event e = e
named-told s lost event e = absurd cc
named-told s scan event e = absurd cc

-- what a later line reports is what it tells as a line of a trace
pub timed-told : (s : State) (line : List ℕ) (timed : TimedLine)
    → timed_line_of s line ≡ Some timed → event_in_line s line ≡ timed.event
timed-told s line timed e = by-alive (text_without_end (codes " alive") line) refl e
  where
    by-digits : (digits : List ℕ) (o : Option ℕ) → line ≡ digits ++ codes " alive"
        → read_number digits ≡ o → option_map alive_at o ≡ Some timed
        → event_in_line s line ≡ timed.event
    by-digits digits None is number some = absurd cc
    by-digits digits (Some n) is number some =
        let same : alive_at n ≡ timed = cc in
        ap (event_in_line s) is ∙ alive-untold s digits (number-digits digits n number)
        ∙ ap (λ (t : TimedLine). t.event) same

    by-event : (moment : ℕ) (named : NamedData) (o : Option ProcessEvent)
        → trace_line_of line ≡ Some (at_moment moment named) → process_event s named ≡ o
        → option_map (happened_at moment) o ≡ Some timed → event_in_line s line ≡ timed.event
    by-event moment named None read is some = absurd cc
    by-event moment named (Some event) read is some =
        let same : happened_at moment event ≡ timed = cc in
        ap (λ l. option_and_then (process_event s) (process_of l)) read
        ∙ named-told s named event is ∙ ap (λ (t : TimedLine). t.event) same

    by-line : (o : Option LineData) → trace_line_of line ≡ o → timed_event s o ≡ Some timed
        → event_in_line s line ≡ timed.event
    by-line None read some = absurd cc
    by-line (Some blank) read some = absurd cc
    by-line (Some (at_moment moment named)) read some =
        by-event moment named (process_event s named) read refl some

    by-alive : (o : Option (List ℕ)) → text_without_end (codes " alive") line ≡ o
        → timed_by s line o ≡ Some timed → event_in_line s line ≡ timed.event
    by-alive (Some digits) cut some =
        by-digits digits (read_number digits) (stripped-is (codes " alive") line digits cut) refl
        some
    by-alive None cut some = by-line (trace_line_of line) refl some
