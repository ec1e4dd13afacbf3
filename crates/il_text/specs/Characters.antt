-- The characters of tokens (IEC 61131-3:2003, annex B.1.2 and B.1.3).
use Rattle.std.specs.Prelude.{ℕ, Bool, ◌&&◌, ◌||◌, ◌==◌}
use Rattle.std.specs.Char.{is_ascii_digit, is_ascii_alphabetic, is_ascii_alphanumeric}
use Rattle.std.specs.Str.{byte}

-- ---- own: which characters belong together

-- whether a character is a space or a tab (IEC 61131-3, 2.1.4)
abbrev pub is_blank : ℕ → Bool
is_blank x = x == byte " " || x == 9

-- whether a character is the sign of a number (IEC 61131-3, B.1.2.1)
abbrev pub is_sign : ℕ → Bool
is_sign x = x == byte "+" || x == byte "-"

-- whether a character is a letter, a digit, `_` or `#`
abbrev pub is_word : ℕ → Bool
is_word x = is_ascii_alphanumeric x || (x == byte "_" || x == byte "#")

-- whether a word, or a number with a sign, may begin with the character
abbrev pub begins_word : ℕ → Bool
begins_word x = is_word x || is_sign x

-- whether a name may begin with the character: a letter or `_` (IEC 61131-3, B.1.1)
abbrev pub begins_name : ℕ → Bool
begins_name x = is_ascii_alphabetic x || x == byte "_"

-- Whether two adjacent characters, x and then y, belong to one token: within a word, at the sign of
-- a number, within `:=`, and within a line end.
unfoldable pub are_linked : ℕ → ℕ → Bool
are_linked x y =
    ((is_word y || (is_sign y && x == byte "#")) && is_word x)
    || (is_ascii_digit y && is_sign x)
    || (y == byte "=" && x == byte ":")
    || (y == 10 && x == 13)
