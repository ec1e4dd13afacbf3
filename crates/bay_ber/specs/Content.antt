-- The contents of the simple types.
use Rattle.std.specs.Prelude.{ℕ, ℤ, pos, negsuc, ◌≡◌, ◌+◌, ◌-◌, ◌-ℤ◌, ◌*◌, ◌^◌, ◌<◌, ◌≤◌, ◌&&◌, Bool, true, false, FitsSigned, List, [], ◌∷◌, length, Option, Some, None, nat_lt, if◌then◌else◌}
use Rattle.std.specs.Int.{w64}
use Rattle.bay_ber.specs.declared.content.Bits.{Bits}
use Rattle.bay_ber.specs.Octets.{number_of}

-- ---- X.690 8.3: integers

-- the number that octets encode in two's complement: bit 8 of the first is the sign (X.690 8.3.3)
abbrev pub signed_of : List ℕ → ℤ
signed_of [] = pos 0
signed_of (first ∷ octets) =
    if nat_lt first 128
    then pos (number_of (first ∷ octets))
    else pos (number_of (first ∷ octets)) -ℤ pos (256 ^ length (first ∷ octets))

-- The content is an integer of 1 to 9 octets, within 64 bits (X.690 8.3).
pub record IsInteger (content : List ℕ) (value : ℤ) : Type 0 where
  pub some : 0 < length content
  pub few : length content ≤ 9
  pub is : value ≡ signed_of content
  pub fits : FitsSigned w64 value

-- ---- X.690 8.6: bit strings

-- Octets hold `count` bits, followed by `unused` ones, at most 7; altogether at most 2 ^ 64 - 8
-- bits.
pub record HasBits (unused : ℕ) (octets : List ℕ) (count : ℕ) : Type 0 where
  pub few : unused ≤ 7
  pub filled : count + unused ≡ 8 * length octets
  pub within : length octets < 2 ^ 61

-- The content is the number of unused bits, and the octets that hold the bits, the first bit
-- highest (X.690 8.6.2).
abbrev pub IsBits : List ℕ → List ℕ → ℕ → Type 0
IsBits [] octets count = ⊥
IsBits (unused ∷ behind) octets count = (octets ≡ behind) × HasBits unused behind count

-- The content is one octet: 0 is false, all else is true (X.690 8.2.2).
abbrev pub IsTruth : List ℕ → Bool → Type 0
IsTruth (octet ∷ []) false = octet ≡ 0
IsTruth (octet ∷ []) true = 0 < octet
IsTruth content value = ⊥

-- ---- own: views of the code

-- a bit string as a value, without the slice it borrows from
pub record BitString : Type 0 where
  pub octets : List ℕ
  pub count : ℕ

-- the view of a bit string
abbrev pub bit_string_view : Bits → BitString
bit_string_view b = record { octets = b.octets.now; count = b.count }

-- ---- X.690 8.3: integers as they are read; laws prove that this agrees with the relation above

-- whether a number is within 64 bits
abbrev pub fits_64_bits : ℤ → Bool
fits_64_bits (pos n) = nat_lt n 9223372036854775808
fits_64_bits (negsuc n) = nat_lt n 9223372036854775808

-- whether the content has 1 to 9 octets and its number is within 64 bits
unfoldable pub is_integer : List ℕ → Bool
is_integer content =
    nat_lt 0 (length content) && (nat_lt (length content) 10 && fits_64_bits (signed_of content))

-- the number of an integer's content, or None
abbrev pub integer_in : List ℕ → Option ℤ
integer_in content = if is_integer content then Some (signed_of content) else None

-- ---- X.690 8.6: bit strings as they are read; laws prove that this agrees with the relation above

-- whether the last octet may have this number of unused bits
unfoldable pub is_unused_count : ℕ → List ℕ → Bool
is_unused_count unused octets =
    nat_lt unused 8 && (nat_lt unused (8 * length octets + 1)
    && nat_lt (length octets) 2305843009213693952)

-- the bits of a bit string's content, or None
abbrev pub bits_in : List ℕ → Option BitString
bits_in [] = None
bits_in (unused ∷ octets) =
    if is_unused_count unused octets
    then Some (record { octets = octets; count = 8 * length octets - unused }) else None

-- ---- X.690 8.2: booleans as they are read; laws prove that this agrees with the relation above

-- the boolean of a content, or None
abbrev pub truth_in : List ℕ → Option Bool
truth_in (octet ∷ []) = Some (nat_lt 0 octet)
truth_in content = None
