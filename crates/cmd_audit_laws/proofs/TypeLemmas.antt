-- A measured value that a line tells has 32 bits, and so has one that a turn is given.
use Rattle.std.proofs.Common.{◌≡◌, ◌<◌, ◌≤◌, ◌^◌, ℕ, ℤ, pos, neg_ℤ, nat_lt, nat_le, Bool, true, false, cond, List, [], ◌∷◌, Option, Some, None, option_map, option_and_then, Result, Ok, Err, refl, subst, arith}
use Rattle.std.specs.Prelude.{IfOk, IfSome, ◌==◌, codes}
use Rattle.std.specs.List.{slice_split}
use Rattle.std.specs.Str.{bytes_eq}
use Rattle.std.proofs.lemmas.Bool.Decides.{nat_tests}
use Rattle.std.proofs.lemmas.Int.{ints}
use Rattle.bay_base.specs.Decimals.{negative_of, positive_of, read_number}
use Rattle.bay_base.specs.declared.point.MeterField.{MeterField}
use Rattle.bay_device.specs.Device.{State}
use Rattle.bay_lines.specs.FirstLines.{LineSearchData, Waiting, Overlong, Whole, first_line_of}
use Rattle.bay_audit_laws.specs.Laws.{Has32Bits, IsOfType}
use Rattle.bay_process_port.specs.Ports.{PortData, judge_port, presence_reading, judged_reading}
use Rattle.bay_process_port.specs.Supervised.{WatchData, event_in, judge_introduction, is_timely, judge_line, judge_plain_line, judge_later_line, judge_moment, event_message}
use Rattle.bay_process_port.specs.Introduction.{introduction_moment}
use Rattle.bay_process_port.specs.declared.connection_event.DisconnectReason.{DisconnectReason}
use Rattle.bay_process_port.specs.declared.connection_event.DisconnectReason.TheVariants.{OutOfOrder, Untimely}
use Rattle.bay_process_port.specs.declared.port.Presence.{Presence}
use Rattle.bay_process_port.specs.declared.port.Presence.TheVariants.{Absent, LossPending, Dismissed, Present}
use Rattle.bay_process_port.specs.declared.supervision.ProcessMessage.{ProcessMessage}
use Rattle.bay_process_port.specs.declared.supervision.ProcessMessage.TheVariants.{Introduces}
use Rattle.bay_process_port.specs.declared.supervision.TimedMessage.{TimedMessage}
use Rattle.bay_process_port.proofs.WatchLemmas.{line-judged}
use Rattle.bay_server_turn.specs.Served.{TurnInput, turn_input_of_line, process_event as served_event, report_in, is_loss_line, event_in_line, input_of_event}
use Rattle.bay_server_turn.specs.Supervised.{text_without_end, timed_by, timed_event, timed_line_of}
use Rattle.bay_server_turn.specs.Turns.{event_of as event_in_turn}
use Rattle.bay_server_turn.specs.declared.process_input.ProcessEvent.{ProcessEvent}
use Rattle.bay_server_turn.specs.declared.supervised.TimedLine.{TimedLine}
use Rattle.bay_server.specs.ServeReport.{ProcessData, input_from_trace, with_loss}
use Rattle.bay_trace.specs.Resolving.{resolved_event}
use Rattle.bay_trace.specs.Trace.{LineData, NamedData, association_event_by_verb, association_of, at_moment, bad_measure, blank, connects, contact, disconnects, event_of, field_of, first_number, input, is_association_verb, is_space, lost, measure, measure_of, name_of, named_event_of, only_word, process_of, process_event, read_integer, received_of, receives, scan, measure_event_of, trace_line_of, words_line}
use Rattle.bay_trace.specs.Digits.{octets_of}
use Rattle.cmd_audit_laws.proofs.OptionLemmas.{cond-some, map-some, then-some}

-- ---- numbers

positive-fits : (n : ℕ) → IfSome (positive_of n) Has32Bits
positive-fits n = by-test (nat_lt n (2 ^ 31)) refl
  where
    by-test : (v : Bool) → nat_lt n (2 ^ 31) ≡ v → IfSome (cond v (Some (pos n)) None) Has32Bits
    by-test true low =
        let few : n < 2147483648 = grind (arith, nat_tests) in
        record { least = omega (arith, ints); greatest = omega (arith, ints, few) }
    by-test false low = tt

negative-fits : (n : ℕ) → IfSome (negative_of n) Has32Bits
negative-fits n = by-test (nat_le n (2 ^ 31)) refl
  where
    by-test : (v : Bool) → nat_le n (2 ^ 31) ≡ v
        → IfSome (cond v (Some (neg_ℤ (pos n))) None) Has32Bits
    by-test true low =
        let few : n ≤ 2147483648 = grind (arith, nat_tests) in
        record { least = omega (arith, ints, few); greatest = omega (arith, ints) }
    by-test false low = tt

integer-fits : (message : List ℕ) → IfSome (read_integer message) Has32Bits
integer-fits [] = tt
integer-fits (b ∷ bs) =
    cond-some Has32Bits (b == 45) (option_and_then negative_of (read_number bs))
    (option_and_then positive_of (read_number (b ∷ bs)))
    (then-some Has32Bits negative_of (read_number bs) negative-fits)
    (then-some Has32Bits positive_of (read_number (b ∷ bs)) positive-fits)

-- ---- lines

-- what a line tells is of its type
abbrev pub NamedFits : NamedData → Type 0
NamedFits (connects a) = Unit {0}
NamedFits (receives a octets) = Unit {0}
NamedFits (disconnects a) = Unit {0}
NamedFits (contact id position) = Unit {0}
NamedFits (input name value) = Unit {0}
NamedFits (measure id field value) = Has32Bits value
NamedFits (bad_measure id field) = Unit {0}
NamedFits lost = Unit {0}
NamedFits scan = Unit {0}

-- The number of a measure in a line has 32 bits.
abbrev pub LineFits : LineData → Type 0
LineFits blank = Unit {0}
LineFits (at_moment moment named) = NamedFits named

told-fits : (id : List ℕ) (field : MeterField) (message : List ℕ)
    → IfSome (measure_event_of id field message) NamedFits
told-fits id field message =
    cond-some NamedFits (bytes_eq message (codes "bad")) (Some (bad_measure id field))
    (option_map (measure id field) (read_integer message)) tt
    (number-told (read_integer message) (integer-fits message))
  where
    number-told : (o : Option ℤ) → IfSome o Has32Bits
        → IfSome (option_map (measure id field) o) NamedFits
    number-told None h = tt
    number-told (Some z) h = h

measure-fits : (id : List ℕ) (words : List (List ℕ)) → IfSome (measure_of id words) NamedFits
measure-fits id [] = tt
measure-fits id (field ∷ reported) =
    then-some NamedFits (λ f. option_and_then (measure_event_of id f) (only_word reported))
    (field_of field)
    (λ f. then-some NamedFits (measure_event_of id f) (only_word reported) (told-fits id f))

named-fits : (verb name : List ℕ) (values : List (List ℕ))
    → IfSome (named_event_of verb name values) NamedFits
named-fits verb name values =
    cond-some NamedFits (bytes_eq verb (codes "contact")) _ _
    (map-some NamedFits (contact name) _ (λ x. tt))
    (cond-some NamedFits (bytes_eq verb (codes "input")) _ _
    (map-some NamedFits (input name) _ (λ x. tt))
    (cond-some NamedFits (bytes_eq verb (codes "measure")) (measure_of name values) None
    (measure-fits name values) tt))

received-fits : (words : List (List ℕ)) → IfSome (received_of words) NamedFits
received-fits [] = tt
received-fits (message ∷ octets) =
    then-some NamedFits
    (λ a. option_map (receives a) (option_and_then octets_of (only_word octets)))
    (association_of message)
    (λ a. map-some NamedFits (receives a) (option_and_then octets_of (only_word octets)) (λ x. tt))

association-fits : (verb : List ℕ) (words : List (List ℕ))
    → IfSome (association_event_by_verb verb words) NamedFits
association-fits verb words =
    cond-some NamedFits (bytes_eq verb (codes "open")) _ _
    (map-some NamedFits connects _ (λ x. tt))
    (cond-some NamedFits (bytes_eq verb (codes "close")) _ _
    (map-some NamedFits disconnects _ (λ x. tt))
    (cond-some NamedFits (bytes_eq verb (codes "recv")) (received_of words) None
    (received-fits words) tt))

event-fits : (words : List (List ℕ)) → IfSome (event_of words) NamedFits
event-fits [] = tt
event-fits (verb ∷ []) =
    cond-some NamedFits (bytes_eq verb (codes "scan")) (Some scan) _ tt
    (cond-some NamedFits (bytes_eq verb (codes "lost")) (Some lost) None tt tt)
event-fits (verb ∷ message ∷ values) =
    cond-some NamedFits (is_association_verb verb)
    (association_event_by_verb verb (message ∷ values)) _
    (association-fits verb (message ∷ values))
    (then-some NamedFits (λ name. named_event_of verb name values) (name_of message)
    (λ name. named-fits verb name values))

words-fit : (words : List (List ℕ)) → IfSome (words_line words) LineFits
words-fit words =
    then-some LineFits (λ cut. option_map (at_moment cut.0) (event_of cut.1)) (first_number words)
    (λ cut. moment-fits cut.0 (event_of cut.1) (event-fits cut.1))
  where
    moment-fits : (moment : ℕ) (o : Option NamedData) → IfSome o NamedFits
        → IfSome (option_map (at_moment moment) o) LineFits
    moment-fits moment None h = tt
    moment-fits moment (Some named) h = h

pub line-fits : (text : List ℕ) → IfSome (trace_line_of text) LineFits
line-fits [] = tt
line-fits (b ∷ bs) = words-fit (slice_split is_space (b ∷ bs))

-- the event of a device that a line tells of
pub placed-fits : (s : State) (named : NamedData) → NamedFits named
    → IsOfType (resolved_event s named)
placed-fits s (connects a) h = tt
placed-fits s (receives a octets) h = tt
placed-fits s (disconnects a) h = tt
placed-fits s (contact id position) h = tt
placed-fits s (input name value) h = tt
placed-fits s (measure id field value) h = h
placed-fits s (bad_measure id field) h = tt
placed-fits s lost h = tt
placed-fits s scan h = tt

-- ---- what a turn is given

-- what happens to the process is of its type
abbrev pub EventFits : ProcessEvent → Type 0
EventFits event = IsOfType (event_in_turn event)

served-fits : (s : State) (named : NamedData) → NamedFits named
    → IfSome (served_event s named) EventFits
served-fits s (connects a) h = tt
served-fits s (receives a octets) h = tt
served-fits s (disconnects a) h = tt
served-fits s (contact id position) h = tt
served-fits s (input name value) h = tt
served-fits s (measure id field value) h = h
served-fits s (bad_measure id field) h = tt
served-fits s lost h = tt
served-fits s scan h = tt

process-fits : (named : NamedData) → NamedFits named → IfSome (process_event named) NamedFits
process-fits (connects a) h = tt
process-fits (receives a octets) h = tt
process-fits (disconnects a) h = tt
process-fits (contact id position) h = tt
process-fits (input name value) h = tt
process-fits (measure id field value) h = h
process-fits (bad_measure id field) h = tt
process-fits lost h = tt
process-fits scan h = tt

told-of-line : (s : State) (o : Option LineData) → IfSome o LineFits
    → IfSome (option_and_then (served_event s) (process_of o)) EventFits
told-of-line s None h = tt
told-of-line s (Some blank) h = tt
told-of-line s (Some (at_moment moment named)) h =
    both (process_event named) (process-fits named h)
  where
    both : (o : Option NamedData) → IfSome o NamedFits
        → IfSome (option_and_then (served_event s) o) EventFits
    both None k = tt
    both (Some event) k = served-fits s event k

told-by-fits : (s : State) (text : List ℕ) → IfSome (event_in_line s text) EventFits
told-by-fits s text = told-of-line s (trace_line_of text) (line-fits text)

-- what is given is of its type
abbrev GivenFits : TurnInput → Type 0
GivenFits given = IfSome (report_in given).event EventFits

given-fits : (s : State) (text : List ℕ) → GivenFits (turn_input_of_line s text)
given-fits s text = by-lost (is_loss_line (trace_line_of text))
  where
    by-told : (o : Option ProcessEvent) → IfSome o EventFits → GivenFits (input_of_event o)
    by-told None h = tt
    by-told (Some event) h = h

    by-lost : (b : Bool)
        → GivenFits (cond b (Ok (record { is_lost = true; event = None; skips_reads = false }))
        (input_of_event (event_in_line s text)))
    by-lost true = tt
    by-lost false = by-told (event_in_line s text) (told-by-fits s text)

loss-fits : (is_lost : Bool) (given : TurnInput) → GivenFits given
    → GivenFits (with_loss is_lost given)
loss-fits is_lost (Ok given) h = h
loss-fits is_lost (Err fault) h = h

-- ---- the port

abbrev WordFits : Result TimedMessage DisconnectReason → Type 0
WordFits written = IfOk written (λ message. IfSome (event_in message.message) EventFits)

abbrev TimedFits : TimedLine → Type 0
TimedFits timed = IfSome timed.event EventFits

timed-fits : (s : State) (line : List ℕ) → IfSome (timed_line_of s line) TimedFits
timed-fits s line = by-end (text_without_end (codes " alive") line)
  where
    by-event : (moment : ℕ) (o : Option ProcessEvent) → IfSome o EventFits
        → IfSome
        (option_map (λ (event : ProcessEvent). record { moment = moment; event = Some event })
        o) TimedFits
    by-event moment None h = tt
    by-event moment (Some event) h = h

    by-line : (o : Option LineData) → IfSome o LineFits → IfSome (timed_event s o) TimedFits
    by-line None h = tt
    by-line (Some blank) h = tt
    by-line (Some (at_moment moment named)) h =
        by-event moment (served_event s named) (served-fits s named h)

    by-end : (o : Option (List ℕ)) → IfSome (timed_by s line o) TimedFits
    by-end (Some digits) = map-some TimedFits _ (read_number digits) (λ n. tt)
    by-end None = by-line (trace_line_of line) (line-fits line)

plain-fits : (now : ℕ) (line : List ℕ) (o : Option ProcessEvent) → IfSome o EventFits
    → WordFits (judge_plain_line now line o)
plain-fits now [] o h = tt
plain-fits now (b ∷ bs) None h = tt
plain-fits now (b ∷ bs) (Some event) h = h

if-ok : (b : Bool) (x y : Result TimedMessage DisconnectReason) → WordFits x → WordFits y
    → WordFits (cond b x y)
if-ok true x y h k = h
if-ok false x y h k = k

timely-fits : (limit now moment : ℕ) (message : ProcessMessage)
    → IfSome (event_in message) EventFits
    → WordFits (judge_moment limit now moment message)
timely-fits limit now moment message h =
    if-ok (is_timely limit now moment) (Ok (record { moment = moment; message = message }))
    (Err Untimely) h tt

judged-fits : (watch : Option WatchData) (s : State) (now : ℕ) (line : List ℕ)
    → WordFits (judge_line watch s now line)
judged-fits None s now line = plain-fits now line (event_in_line s line) (told-by-fits s line)
judged-fits (Some w) s now line =
    if-ok w.introduced (judge_later_line line w now (timed_line_of s line))
    (judge_introduction w.settings now
    (introduction_moment w.settings.key s.domain s.revision line))
    (by-timed (timed_line_of s line) (timed-fits s line))
    (by-moment (introduction_moment w.settings.key s.domain s.revision line))
  where
    word-fits : (o : Option ProcessEvent) → IfSome o EventFits
        → IfSome (event_in (event_message o)) EventFits
    word-fits None h = tt
    word-fits (Some event) h = h

    by-timed : (o : Option TimedLine) → IfSome o TimedFits
        → WordFits (judge_later_line line w now o)
    by-timed None h = tt
    by-timed (Some timed) h =
        if-ok (nat_lt timed.moment w.last) (Err OutOfOrder)
        (judge_moment w.settings.limit now timed.moment (event_message timed.event)) tt
        (timely-fits w.settings.limit now timed.moment (event_message timed.event)
        (word-fits timed.event h))

    by-moment : (o : Option ℕ) → WordFits (judge_introduction w.settings now o)
    by-moment None = tt
    by-moment (Some moment) = timely-fits w.settings.limit now moment Introduces tt

taken-fits : (presence : Presence) (s : State) (now jump : ℕ) (p : PortData)
    → IfSome (presence_reading presence s now jump p).event EventFits
taken-fits Absent s now jump p = tt
taken-fits LossPending s now jump p = tt
taken-fits (Dismissed why) s now jump p = tt
taken-fits Present s now jump p =
    by-judged (judge_port s now jump p) (first_line_of p.buffer) refl refl
  where
    by-word : (line : List ℕ) (written : TimedMessage) (r : Result TimedMessage DisconnectReason)
        → WordFits r → r ≡ Ok written → IfSome (event_in written.message) EventFits
    by-word line written (Err why) h e = absurd cc
    by-word line written (Ok x) h e =
        let same : x ≡ written = cc in
        subst (λ (m : TimedMessage). IfSome (event_in m.message) EventFits) same h

    by-judged : (r : Result (Option TimedMessage) DisconnectReason) (f : LineSearchData)
        → judge_port s now jump p ≡ r → first_line_of p.buffer ≡ f
        → IfSome (judged_reading now r f p).event EventFits
    by-judged (Err why) f is there = tt
    by-judged (Ok None) f is there = tt
    by-judged (Ok (Some written)) Waiting is there = tt
    by-judged (Ok (Some written)) Overlong is there = tt
    by-judged (Ok (Some written)) (Whole line rest) is there =
        by-word line written (judge_line p.watch s now line) (judged-fits p.watch s now line)
        (line-judged s now jump p line rest written there is)

-- what is chosen for a turn
pub choice-fits : {L : Type 0} (s : State) (now jump : ℕ) (lines : List (ℕ × List ℕ))
    (line : Option (ℕ × List ℕ)) (process : Option (ProcessData L))
    → IfSome (report_in (input_from_trace line s now jump lines process).next.given).event EventFits
choice-fits s now jump lines None None = tt
choice-fits s now jump lines None (Some p) = taken-fits p.port.presence s now jump p.port
choice-fits s now jump lines (Some line) process =
    loss-fits _ (turn_input_of_line s line.1) (given-fits s line.1)
