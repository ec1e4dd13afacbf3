-- Names are the same if they are equal in upper case (IEC 61131-3:2003, 2.1.2).
use Rattle.std.specs.Prelude.{ℕ, Bool, List, map}
use Rattle.std.specs.Char.{to_ascii_uppercase}
use Rattle.std.specs.Str.{bytes_eq}

-- ASCII letters in upper case, other octets unchanged
abbrev pub upper : List ℕ → List ℕ
upper = map to_ascii_uppercase

-- whether two names are the same: the case of letters is not significant
unfoldable pub same_name : List ℕ → List ℕ → Bool
same_name a b = bytes_eq (upper a) (upper b)
