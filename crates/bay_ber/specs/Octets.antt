-- Octets as numbers.
use Rattle.std.specs.Prelude.{ℕ, ◌+◌, ◌*◌, ◌<◌, fold, slice_index, List}

-- ---- own: octets as numbers

-- the number with these octets, the highest first
abbrev pub number_of : List ℕ → ℕ
number_of octets = fold (λ high octet. high * 256 + octet) 0 octets

-- each number of the list is an octet
abbrev pub AreOctets : List ℕ → Type 0
AreOctets octets = (i : ℕ) → slice_index octets i < 256
