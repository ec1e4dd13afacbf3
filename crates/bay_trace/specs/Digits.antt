-- Octets in hexadecimal digits.
use Rattle.std.specs.Prelude.{ℕ, List, [], ◌∷◌, Option, None, unwrap_or}
use Rattle.std.specs.Result.{result_ok}
use Rattle.hex.specs.Hex.{decode_of}

-- the octets that hexadecimal digits of either case encode; at least one
abbrev pub octets_of : List ℕ → Option (List ℕ)
octets_of [] = None
octets_of (b ∷ bs) = result_ok (decode_of (b ∷ bs))

-- the octets that digits encode; none if they encode none
abbrev pub octets_or_empty : List ℕ → List ℕ
octets_or_empty digits = unwrap_or (octets_of digits) []
