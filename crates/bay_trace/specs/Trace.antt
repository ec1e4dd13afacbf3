-- How a line of the trace is read: words with one space between them.
use Rattle.std.specs.Prelude.{ℕ, ℤ, ◌==◌, ◌||◌, ◌^◌, Bool, true, false, nat_lt, List, [], ◌∷◌, codes, Option, None, Some, option_map, option_and_then, if◌then◌else◌}
use Rattle.std.specs.List.{slice_split}
use Rattle.std.specs.Str.{bytes_eq, is_utf8}
use Rattle.bay_base.specs.declared.point.MeterField.{MeterField}
use Rattle.bay_base.specs.declared.point.MeterField.TheVariants.{TotW, TotVAr, Hz, PhaseA, PhaseB, PhaseC}
use Rattle.bay_base.specs.declared.position.Dbpos.{Dbpos}
use Rattle.bay_base.specs.declared.position.Dbpos.TheVariants.{Intermediate, Off, On, Bad}
use Rattle.bay_base.specs.Decimals.{negative_of, positive_of, read_number}
use Rattle.bay_trace.specs.Digits.{octets_of}

-- An event with its names: an association is opened, its client sends octets, or it is closed; a
-- switch reports a position, an input a value, a meter the value of a field, or that a field is
-- invalid; the process is lost; or the program runs.
pub data NamedData : Type 0 where
  connects : ℕ → NamedData
  receives : ℕ → List ℕ → NamedData
  disconnects : ℕ → NamedData
  contact : List ℕ → Dbpos → NamedData
  input : List ℕ → Bool → NamedData
  measure : List ℕ → MeterField → ℤ → NamedData
  bad_measure : List ℕ → MeterField → NamedData
  lost : NamedData
  scan : NamedData

-- a valid line
pub data LineData : Type 0 where
  blank : LineData
  at_moment : ℕ → NamedData → LineData

-- a space
abbrev pub is_space : ℕ → Bool
is_space b = b == 32

-- the words after the first
abbrev pub rest_words : Option (List ℕ) → List (List ℕ)
rest_words None = []
rest_words (Some rest) = slice_split is_space rest

-- the only word
abbrev pub only_word : List (List ℕ) → Option (List ℕ)
only_word [] = None
only_word (word ∷ []) = Some word
only_word (word ∷ next ∷ others) = None

-- the number that the first of several words spells, and the words after it
abbrev pub first_number : List (List ℕ) → Option (ℕ × List (List ℕ))
first_number [] = None
first_number (word ∷ []) = None
first_number (word ∷ next ∷ words) = option_map (λ n. (n, next ∷ words)) (read_number word)

-- the number that decimal digits spell, with or without a `-` before them
abbrev pub read_integer : List ℕ → Option ℤ
read_integer [] = None
read_integer (b ∷ bs) =
    if b == 45 then option_and_then negative_of (read_number bs)
    else option_and_then positive_of (read_number (b ∷ bs))

-- 0 intermediate, 1 off, 2 on, 3 bad
abbrev pub position_of : List ℕ → Option Dbpos
position_of word =
    if bytes_eq word (codes "0") then Some Intermediate
    else if bytes_eq word (codes "1") then Some Off
    else if bytes_eq word (codes "2") then Some On
    else if bytes_eq word (codes "3") then Some Bad
    else None

-- 0 FALSE, 1 TRUE
abbrev pub truth_of : List ℕ → Option Bool
truth_of word =
    if bytes_eq word (codes "0") then Some false
    else if bytes_eq word (codes "1") then Some true
    else None

-- the field of a meter that a word names
abbrev pub field_of : List ℕ → Option MeterField
field_of word =
    if bytes_eq word (codes "TOTW") then Some TotW
    else if bytes_eq word (codes "TOTVAR") then Some TotVAr
    else if bytes_eq word (codes "HZ") then Some Hz
    else if bytes_eq word (codes "AA") then Some PhaseA
    else if bytes_eq word (codes "AB") then Some PhaseB
    else if bytes_eq word (codes "AC") then Some PhaseC
    else None

-- the event of a field of a meter: a word spells its value, or `bad` marks it as invalid
abbrev pub measure_event_of : List ℕ → MeterField → List ℕ → Option NamedData
measure_event_of id field word =
    if bytes_eq word (codes "bad") then Some (bad_measure id field)
    else option_map (measure id field) (read_integer word)

-- a field, then its value or `bad`
abbrev pub measure_of : List ℕ → List (List ℕ) → Option NamedData
measure_of id [] = None
measure_of id (field ∷ tail) =
    option_and_then (λ f. option_and_then (measure_event_of id f) (only_word tail)) (field_of field)

-- a word that is a name: it is UTF-8, and not empty
abbrev pub name_of : List ℕ → Option (List ℕ)
name_of [] = None
name_of (b ∷ bs) = if is_utf8 (b ∷ bs) then Some (b ∷ bs) else None

-- the event of a switch, an input or a meter with this name: `contact` has a position, `input` a
-- truth value, `measure` a field, then its value or `bad`
abbrev pub named_event_of : List ℕ → List ℕ → List (List ℕ) → Option NamedData
named_event_of verb name values =
    if bytes_eq verb (codes "contact")
    then option_map (contact name) (option_and_then position_of (only_word values))
    else if bytes_eq verb (codes "input")
    then option_map (input name) (option_and_then truth_of (only_word values))
    else if bytes_eq verb (codes "measure") then measure_of name values
    else None

-- the number of an association, below 2 ^ 16
abbrev pub association_of : List ℕ → Option ℕ
association_of word =
    option_and_then (λ n. if nat_lt n (2 ^ 16) then Some n else None) (read_number word)

-- an association, then the octets of its client
abbrev pub received_of : List (List ℕ) → Option NamedData
received_of [] = None
received_of (word ∷ octets) =
    option_and_then (λ a. option_map (receives a) (option_and_then octets_of (only_word octets)))
    (association_of word)

-- an event of an association: `open` and `close` have its number alone, `recv` its number, then
-- octets
abbrev pub association_event_by_verb : List ℕ → List (List ℕ) → Option NamedData
association_event_by_verb verb words =
    if bytes_eq verb (codes "open")
    then option_map connects (option_and_then association_of (only_word words))
    else if bytes_eq verb (codes "close")
    then option_map disconnects (option_and_then association_of (only_word words))
    else if bytes_eq verb (codes "recv") then received_of words
    else None

-- the event of an association that words spell, if the first is one of these three
abbrev pub association_event_in : List (List ℕ) → Option NamedData
association_event_in [] = None
association_event_in (verb ∷ words) = association_event_by_verb verb words

-- the first word of an event of an association
abbrev pub is_association_verb : List ℕ → Bool
is_association_verb verb =
    bytes_eq verb (codes "open") || (bytes_eq verb (codes "close") || bytes_eq verb (codes "recv"))

-- `scan` and `lost` have no other word; the other verbs are followed by an association, or by a
-- name and its value
abbrev pub event_of : List (List ℕ) → Option NamedData
event_of [] = None
event_of (verb ∷ []) =
    if bytes_eq verb (codes "scan") then Some scan
    else if bytes_eq verb (codes "lost") then Some lost
    else None
event_of (verb ∷ word ∷ values) =
    if is_association_verb verb
    then association_event_by_verb verb (word ∷ values)
    else option_and_then (λ name. named_event_of verb name values) (name_of word)

-- a moment, then an event
abbrev pub words_line : List (List ℕ) → Option LineData
words_line words =
    option_and_then (λ cut. option_map (at_moment cut.0) (event_of cut.1)) (first_number words)

-- An empty line has no event. The words of another are read by their forms, in which all but a name
-- are ASCII.
abbrev pub trace_line_of : List ℕ → Option LineData
trace_line_of [] = Some blank
trace_line_of (b ∷ bs) = words_line (slice_split is_space (b ∷ bs))

-- an event of the process: of a switch, an input or a meter
abbrev pub process_event : NamedData → Option NamedData
process_event (connects a) = None
process_event (receives a octets) = None
process_event (disconnects a) = None
process_event (contact id position) = Some (contact id position)
process_event (input name value) = Some (input name value)
process_event (measure id field value) = Some (measure id field value)
process_event (bad_measure id field) = Some (bad_measure id field)
process_event lost = None
process_event scan = None

-- the event of the process that a line has; None if the line is not valid or has another event
abbrev pub process_of : Option LineData → Option NamedData
process_of None = None
process_of (Some blank) = None
process_of (Some (at_moment moment event)) = process_event event
