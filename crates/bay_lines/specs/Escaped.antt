-- Octets escaped for a log.
use Rattle.std.specs.Prelude.{ℕ, ◌/◌, ◌%◌, ◌==◌, ◌&&◌, not, nat_le, Bool, List, [], ◌∷◌, ◌++◌, codes, length, take, if◌then◌else◌}
use Rattle.std.specs.Char.{digit_char}

-- whether an octet is a printable character of ASCII other than the backslash
abbrev pub is_plain : ℕ → Bool
is_plain octet = nat_le 32 octet && nat_le octet 126 && not (octet == 92)

-- such an octet as it is, and any other as `\x` and its two hexadecimal digits
abbrev pub escaped_octet : ℕ → List ℕ
escaped_octet octet =
    if is_plain octet then octet ∷ []
    else codes "\\x" ++ digit_char (octet / 16) ∷ digit_char (octet % 16) ∷ []

-- the escaped forms of octets, one after the other
abbrev pub escaped_octets : List ℕ → List ℕ
escaped_octets [] = []
escaped_octets (octet ∷ octets) = escaped_octet octet ++ escaped_octets octets

-- The first 80 octets, escaped, and two dots if there are more.
abbrev pub escaped_text : List ℕ → List ℕ
escaped_text octets =
    if nat_le (length octets) 80 then escaped_octets octets
    else escaped_octets (take 80 octets) ++ codes ".."
