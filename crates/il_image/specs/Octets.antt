-- Numbers in octets, the highest first.
use Rattle.std.specs.Prelude.{ℕ, ℤ, ◌<◌, List, slice_index}
use Rattle.std.specs.Int.{Width as Bits, w8, w16, w32, w64, bytes_high_first, cast_unsigned, to_be_bytes}
use Rattle.bay_base.specs.declared.types.ElementaryType.{ElementaryType}
use Rattle.bay_base.specs.declared.types.ElementaryType.TheVariants as elementary
use Rattle.il_image.specs.declared.write.Size.{Size}
use Rattle.il_image.specs.declared.write.Size.TheVariants.{One, Two, Four, Eight}

-- ---- own: numbers in images

-- Each number of the list is an octet.
abbrev pub AreOctets : List ℕ → Type 0
AreOctets octets = (i : ℕ) → slice_index octets i < 256

-- the number of octets of a size
abbrev pub octet_count : Size → ℕ
octet_count One = 1
octet_count Two = 2
octet_count Four = 4
octet_count Eight = 8

-- the number of bits of a size
abbrev pub bits_of_size : Size → Bits
bits_of_size One = w8
bits_of_size Two = w16
bits_of_size Four = w32
bits_of_size Eight = w64

-- the size of a type's values as operands
abbrev pub size_of : ElementaryType → Size
size_of elementary.Bool = One
size_of elementary.Int = Two
size_of elementary.Dint = Four
size_of elementary.Lint = Eight
size_of elementary.Time = Four

-- the greatest unsigned number of 16 bits
abbrev pub most_counted : ℕ
most_counted = 65_535

-- an unsigned number of 16 bits
abbrev pub number_octets : ℕ → List ℕ
number_octets n = to_be_bytes w16 n

-- a number in two's complement, in this size
abbrev pub signed_octets : Size → ℤ → List ℕ
signed_octets size z = bytes_high_first (octet_count size) (cast_unsigned w64 z)
