-- Numeric, truth and duration literals (IEC 61131-3:2003, 2.2.1, 2.2.3 and annex B.1.2).
use Rattle.std.specs.Prelude.{ℤ, pos, negsuc, int_le, ℕ, ◌+◌, ◌-◌, ◌*◌, Bool, true, false, not, ◌&&◌, ◌||◌, ◌==◌, nat_le, nat_lt, if◌then◌else◌, List, [], ◌∷◌, length, drop, take, filter, slice_index, codes, Option, Some, None, option_map, option_and_then, Result, Ok, Err}
use Rattle.std.specs.Char.{is_digit, is_ascii_digit, is_ascii_alphabetic}
use Rattle.std.specs.List.{position_or_len, before_first, after_first, prefix_len}
use Rattle.std.specs.Str.{byte}
use Rattle.std.specs.Str.Parse.{digits_value}
use Rattle.bay_base.specs.Results.{◌>>=◌}
use Rattle.bay_base.specs.Names.{same_name}
use Rattle.il_text.specs.declared.literal.LiteralFault.{LiteralFault}
use Rattle.il_text.specs.declared.literal.LiteralFault.TheVariants.{Malformed, OutOfRange}
use Rattle.il_text.specs.declared.program.Literal.{Literal}
use Rattle.il_text.specs.declared.program.Literal.TheVariants.{Truth, Number, Int, Dint, Lint, Time}

-- ---- IEC 61131-3 B.1.2.1: numbers and truth values

-- whether a character is `_`, which may separate digits
abbrev pub is_underscore : ℕ → Bool
is_underscore x = x == byte "_"

-- whether a character is `#`, which follows a type or a base
abbrev pub is_hash : ℕ → Bool
is_hash x = x == byte "#"

-- `integer ::= digit {['_'] digit}`; `wanted`: a digit must come next
unfoldable pub is_integer : ℕ → Bool → List ℕ → Bool
is_integer radix wanted [] = not wanted
is_integer radix wanted (x ∷ xs) =
    if not wanted && is_underscore x then is_integer radix true xs
    else is_digit x radix && is_integer radix false xs

-- the number that digits spell, with single underscores between them
unfoldable pub number : ℕ → List ℕ → Option ℕ
number radix ds =
    if is_integer radix true ds
    then Some (digits_value radix (filter (λ x. not (is_underscore x)) ds))
    else None

-- the texts before and after the first `#` (own)
unfoldable pub split_at_hash : List ℕ → Option (List ℕ × List ℕ)
split_at_hash w =
    if nat_lt (position_or_len is_hash w) (length w)
    then Some (before_first is_hash w, after_first is_hash w)
    else None

-- the base that a text before `#` spells
unfoldable pub base_of : List ℕ → Option ℕ
base_of w =
    if same_name w (codes "2") then Some 2
    else if same_name w (codes "8") then Some 8
    else if same_name w (codes "16") then Some 16
    else None

-- a number: whether it is negative, and its magnitude
abbrev pub Signed : Type 0
Signed = Bool × ℕ

-- `signed_integer ::= ['+' | '-'] integer`
unfoldable pub decimal : List ℕ → Option Signed
decimal w =
    if slice_index w 0 == byte "-" then option_map (λ n. (true, n)) (number 10 (drop 1 w))
    else if slice_index w 0 == byte "+" then option_map (λ n. (false, n)) (number 10 (drop 1 w))
    else option_map (λ n. (false, n)) (number 10 w)

-- binary_integer, octal_integer and hex_integer, none of which has a sign
unfoldable pub based_integer : List ℕ → List ℕ → Option Signed
based_integer base digits =
    option_and_then (λ radix. option_map (λ n. (false, n)) (number radix digits)) (base_of base)

-- a number: decimal, or after a base if there is a `#`
abbrev decimal_or_based : List ℕ → Option (List ℕ × List ℕ) → Option Signed
decimal_or_based w None = decimal w
decimal_or_based w (Some h) = based_integer h.0 h.1

-- a number with a sign, or after a base
unfoldable pub integer : List ℕ → Option Signed
integer w = decimal_or_based w (split_at_hash w)

-- the value of a number, which must fit into 64 bits with a sign
abbrev pub number_value : Option Signed → Result ℤ LiteralFault
number_value None = Err Malformed
number_value (Some (false, n)) = if nat_le n 9223372036854775807 then Ok (pos n) else Err OutOfRange
number_value (Some (true, n)) =
    if n == 0
    then Ok (pos 0)
    else if nat_le n 9223372036854775808
    then Ok (negsuc (n - 1))
    else Err OutOfRange

-- a number without a type
unfoldable pub plain_literal : Option Signed → Result Literal LiteralFault
plain_literal z = number_value z >>= (λ value. Ok (Number value))

-- whether the number is in the range, both ends included (own)
abbrev pub is_between : ℤ → ℤ → ℤ → Bool
is_between low high z = int_le low z && int_le z high

-- the BOOL with this value, which must be 0 or 1
abbrev pub bool_literal : ℤ → Result Literal LiteralFault
bool_literal (pos n) =
    if n == 0 then Ok (Truth false) else (if n == 1 then Ok (Truth true) else Err OutOfRange)
bool_literal (negsuc n) = Err OutOfRange

-- the INT with this value, of 16 bits with a sign
abbrev pub int_literal : ℤ → Result Literal LiteralFault
int_literal z = if is_between (negsuc 32767) (pos 32767) z then Ok (Int z) else Err OutOfRange

-- the DINT with this value, of 32 bits with a sign
abbrev pub dint_literal : ℤ → Result Literal LiteralFault
dint_literal z =
    if is_between (negsuc 2147483647) (pos 2147483647) z then Ok (Dint z) else Err OutOfRange

-- the truth value that a word spells: TRUE or FALSE, in letters of either case
abbrev pub truth_of : List ℕ → Option Bool
truth_of w =
    if same_name w (codes "TRUE") then Some true
    else (if same_name w (codes "FALSE") then Some false else None)

-- the number of a word; TRUE and FALSE are outside the numeric types
abbrev pub number_or_truth : List ℕ → Option Bool → Result ℤ LiteralFault
number_or_truth w (Some b) = Err OutOfRange
number_or_truth w None = number_value (integer w)

-- the number after a numeric type and `#`
unfoldable pub typed_number : List ℕ → Result ℤ LiteralFault
typed_number w = number_or_truth w (truth_of w)

-- the BOOL of a truth value, or of a word that must spell 0 or 1
abbrev pub bool_or_truth : List ℕ → Option Bool → Result Literal LiteralFault
bool_or_truth w (Some b) = Ok (Truth b)
bool_or_truth w None = number_value (integer w) >>= bool_literal

-- after `BOOL#`: TRUE, FALSE, or the numbers 0 and 1
unfoldable pub typed_bool : List ℕ → Result Literal LiteralFault
typed_bool w = bool_or_truth w (truth_of w)

-- the literal after `INT#`
unfoldable pub typed_int : List ℕ → Result Literal LiteralFault
typed_int w = typed_number w >>= int_literal

-- the literal after `DINT#`
unfoldable pub typed_dint : List ℕ → Result Literal LiteralFault
typed_dint w = typed_number w >>= dint_literal

-- the literal after `LINT#`
unfoldable pub typed_lint : List ℕ → Result Literal LiteralFault
typed_lint w = typed_number w >>= (λ value. Ok (Lint value))

-- ---- IEC 61131-3 B.1.2.3.1: durations

-- a duration as it is read: the rest of the text, the milliseconds so far, and whether a part was
-- read
pub record Duration : Type 0 where
  pub rest : List ℕ
  pub total : ℕ
  pub begun : Bool

-- the number of digits and `_` at the start of a text
abbrev pub number_len : List ℕ → ℕ
number_len w = prefix_len (λ x. is_ascii_digit x || is_underscore x) w

-- the number of letters after these
abbrev pub unit_len : List ℕ → ℕ
unit_len w = prefix_len is_ascii_alphabetic (drop (number_len w) w)

-- the number of a part; after the first part of a duration an `_` may precede it
abbrev pub number_of_part : Bool → List ℕ → Option ℕ
number_of_part begun ds =
    if begun && is_underscore (slice_index ds 0) then number 10 (drop 1 ds) else number 10 ds

-- a duration with one more part, if the part has a number
abbrev pub with_part : ℕ → Duration → Option ℕ → Option Duration
with_part factor d None = None
with_part factor d (Some n) =
    Some (record {
      rest = drop (unit_len d.rest) (drop (number_len d.rest) d.rest);
      total = d.total + n * factor;
      begun = true;
    })

-- Reads the part in this unit, if it comes first. Its number may exceed one of the next greater
-- unit.
unfoldable pub part : List ℕ → ℕ → Duration → Option Duration
part unit factor d =
    if same_name (take (unit_len d.rest) (drop (number_len d.rest) d.rest)) unit
    then with_part factor d (number_of_part d.begun (take (number_len d.rest) d.rest)) else Some d

-- the milliseconds, if at least one part was read and nothing is left
unfoldable pub total_of : Duration → Option ℕ
total_of d = if d.begun && length d.rest == 0 then Some d.total else None

-- parts in descending units: days, hours, minutes, seconds, milliseconds
unfoldable pub parts : List ℕ → Option Duration
parts w =
    option_and_then (part (codes "ms") 1)
    (option_and_then (part (codes "s") 1000)
    (option_and_then (part (codes "m") 60000)
    (option_and_then (part (codes "h") 3600000)
    (part (codes "d") 86400000 (record { rest = w; total = 0; begun = false })))))

-- the milliseconds of a duration
unfoldable pub milliseconds : List ℕ → Option ℕ
milliseconds w = option_and_then total_of (parts w)

-- the TIME of this number of milliseconds, at most 2,147,483,647 (own)
abbrev pub time_literal : Option ℕ → Result Literal LiteralFault
time_literal None = Err Malformed
time_literal (Some n) = if nat_le n 2147483647 then Ok (Time n) else Err OutOfRange

-- the literal after `T#` or `TIME#`
unfoldable pub typed_time : List ℕ → Result Literal LiteralFault
typed_time w = time_literal (milliseconds w)

-- ---- IEC 61131-3 B.1.2: literals

-- a literal, given the texts before and after its first `#`
unfoldable pub prefixed_literal : List ℕ → List ℕ → Result Literal LiteralFault
prefixed_literal before w =
    if same_name before (codes "BOOL") then typed_bool w
    else if same_name before (codes "INT") then typed_int w
    else if same_name before (codes "DINT") then typed_dint w
    else if same_name before (codes "LINT") then typed_lint w
    else if same_name before (codes "T") || same_name before (codes "TIME") then typed_time w
    else plain_literal (based_integer before w)
