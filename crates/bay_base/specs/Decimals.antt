-- Numbers in decimal digits.
use Rattle.std.specs.Prelude.{ℕ, ℤ, pos, neg_ℤ, ◌&&◌, ◌+◌, ◌-◌, ◌*◌, ◌^◌, nat_lt, nat_le, List, length, Option, None, Some, if◌then◌else◌}
use Rattle.std.specs.Char.{is_ascii_digit}
use Rattle.std.specs.Str.{all_ascii_digits}
use Rattle.std.specs.Str.Parse.{digits_value}

-- the number that one or more decimal digits spell, or None
abbrev pub digits_in : List ℕ → Option ℕ
digits_in word =
    if all_ascii_digits word && nat_lt 0 (length word) then Some (digits_value 10 word) else None

-- the number below 2 ^ 64 that one or more decimal digits spell, or None
abbrev pub read_number : List ℕ → Option ℕ
read_number digits =
    if all_ascii_digits digits && nat_lt 0 (length digits)
    && nat_lt (digits_value 10 digits) (2 ^ 64)
    then Some (digits_value 10 digits)
    else None

-- a number with a decimal digit appended, or None if the octet is no digit or the result is 2 ^ 64
-- or more
abbrev pub with_digit : ℕ → ℕ → Option ℕ
with_digit n b =
    if is_ascii_digit b && nat_lt (n * 10 + (b - 48)) (2 ^ 64) then Some (n * 10 + (b - 48))
    else None

-- a number as a signed number of 32 bits; None if it is out of range
abbrev pub positive_of : ℕ → Option ℤ
positive_of n = if nat_lt n (2 ^ 31) then Some (pos n) else None

-- the negation of a number as a signed number of 32 bits; None if it is out of range
abbrev pub negative_of : ℕ → Option ℤ
negative_of n = if nat_le n (2 ^ 31) then Some (neg_ℤ (pos n)) else None
