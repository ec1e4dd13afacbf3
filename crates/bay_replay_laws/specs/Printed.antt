-- How a report is read: line by line, a line as words with one space between them, and a word as
-- its parts around `=`. Nothing here uses how it is printed.
use Rattle.std.specs.Prelude.{ℕ, ◌==◌, ◌&&◌, Bool, true, false, nat_lt, List, [], ◌∷◌, ◌++◌, length, codes, Option, None, Some, option_and_then, option_map, if◌then◌else◌}
use Rattle.std.specs.List.{slice_split}
use Rattle.std.specs.Str.{all_ascii_digits, bytes_eq}
use Rattle.std.specs.Str.Parse.{digits_value}
use Rattle.bay_base.specs.declared.switch.Operation.{Operation}
use Rattle.bay_base.specs.declared.switch.Operation.TheVariants as operations

-- the lines of a text, each of which ends in LF; after the last LF there is an empty one
abbrev pub lines_in : List ℕ → List (List ℕ)
lines_in text = slice_split (λ b. b == 10) text

-- lines, each with its end
abbrev pub with_ends : List (List ℕ) → List ℕ
with_ends [] = []
with_ends (line ∷ lines) = line ++ 10 ∷ with_ends lines

-- the words of a line, and the parts of a word
abbrev pub words_in : List ℕ → List (List ℕ)
words_in line = slice_split (λ b. b == 32) line

-- the parts of a word, at each `=`
abbrev pub parts_in : List ℕ → List (List ℕ)
parts_in word = slice_split (λ b. b == 61) word

-- ---- how words are read

-- the number that decimal digits spell
abbrev pub number_of : List ℕ → Option ℕ
number_of digits =
    if all_ascii_digits digits && nat_lt 0 (length digits) then Some (digits_value 10 digits)
    else None

-- the number after a name
abbrev pub number_after : List ℕ → List (List ℕ) → Option ℕ
number_after name [] = None
number_after name (part ∷ []) = None
number_after name (part ∷ digits ∷ []) = if bytes_eq part name then number_of digits else None
number_after name (part ∷ digits ∷ next ∷ more) = None

-- 1 is TRUE, and 0 FALSE
abbrev pub truth_of : ℕ → Option Bool
truth_of b = if b == 49 then Some true else if b == 48 then Some false else None

-- ---- the line of a load

-- the budget in the words of the line of a load
abbrev pub budget_in : List (List ℕ) → Option ℕ
budget_in (instructions ∷ depth ∷ budget ∷ []) =
    number_after (codes "budget") (parts_in budget)
budget_in _ = None

-- the budget in the line of a load
abbrev pub printed_budget : List ℕ → Option ℕ
printed_budget line = budget_in (words_in line)

-- ---- the line of a scan

-- a switch, and whether it may be opened and closed
pub record PrintedSwitch : Type 0 where
  pub id : List ℕ
  pub opens : Bool
  pub closes : Bool

-- a switch with what its digits say, if both are digits
abbrev pub switch_from_parts : List ℕ → Option Bool → Option Bool → Option PrintedSwitch
switch_from_parts id (Some opens) (Some closes) =
    Some (record { id = id; opens = opens; closes = closes })
switch_from_parts id _ _ = None

-- two digits
abbrev pub switch_digits : List ℕ → List ℕ → Option PrintedSwitch
switch_digits id (x ∷ y ∷ []) = switch_from_parts id (truth_of x) (truth_of y)
switch_digits id _ = None

-- the switch in the parts of a word
abbrev pub switch_in : List (List ℕ) → Option PrintedSwitch
switch_in (id ∷ digits ∷ []) = switch_digits id digits
switch_in _ = None

-- the switches in words, if each has one
abbrev pub switches_in : List (List ℕ) → Option (List PrintedSwitch)
switches_in [] = Some []
switches_in (word ∷ words) =
    option_and_then (λ switch. option_map (λ more. switch ∷ more) (switches_in words))
    (switch_in (parts_in word))

-- a line of a scan: its moment, its steps, and the switches
pub record PrintedScan : Type 0 where
  pub moment : ℕ
  pub steps : ℕ
  pub switches : List PrintedSwitch

-- a scan, if each of its parts can be read
abbrev pub scan_from_parts : Option ℕ → Option ℕ → Option (List PrintedSwitch) → Option PrintedScan
scan_from_parts (Some moment) (Some steps) (Some switches) =
    Some (record { moment = moment; steps = steps; switches = switches })
scan_from_parts _ _ _ = None

-- the scan in the words of a line
abbrev pub scan_in : List (List ℕ) → Option PrintedScan
scan_in (moment ∷ verb ∷ steps ∷ switches) =
    if bytes_eq verb (codes "scan")
    then scan_from_parts (number_of moment) (number_after (codes "steps") (parts_in steps))
    (switches_in switches)
    else None
scan_in _ = None

-- the line of a scan, as it is read
abbrev pub printed_scan : List ℕ → Option PrintedScan
printed_scan line = scan_in (words_in line)

-- ---- the line of a command

-- a line of a command: its moment, the id of the switch, and the operation
pub record PrintedCommand : Type 0 where
  pub moment : ℕ
  pub id : List ℕ
  pub operation : Operation

-- `on` closes a switch, `off` opens it
abbrev pub operation_of : List ℕ → Option Operation
operation_of word =
    if bytes_eq word (codes "on") then Some operations.Close
    else if bytes_eq word (codes "off") then Some operations.Open
    else None

-- a command, if each of its parts can be read
abbrev pub command_from_parts : Option ℕ → List ℕ → Option Operation → Option PrintedCommand
command_from_parts (Some moment) id (Some operation) =
    Some (record { moment = moment; id = id; operation = operation })
command_from_parts _ id _ = None

-- the command in the words of a line
abbrev pub command_in : List (List ℕ) → Option PrintedCommand
command_in (moment ∷ verb ∷ id ∷ order ∷ []) =
    if bytes_eq verb (codes "command")
    then command_from_parts (number_of moment) id (operation_of order)
    else None
command_in _ = None

-- the line of a command, as it is read
abbrev pub printed_command : List ℕ → Option PrintedCommand
printed_command line = command_in (words_in line)

-- ---- the line of sent octets

-- the association and the octets, by their digits
pub record PrintedSend : Type 0 where
  pub association : List ℕ
  pub octets : List ℕ

-- what is sent, in the words of a line
abbrev pub send_in : List (List ℕ) → Option PrintedSend
send_in (moment ∷ verb ∷ association ∷ octets ∷ []) =
    if bytes_eq verb (codes "send")
    then Some (record { association = association; octets = octets })
    else None
send_in _ = None

-- the line of sent octets, as it is read
abbrev pub printed_send : List ℕ → Option PrintedSend
printed_send line = send_in (words_in line)
