-- The canonical encoding: the shortest one (X.690 8.1.3, 8.2, 8.3.2 and 8.6, with the choices of
-- 10.1, 11.1 and 11.2).
use Rattle.std.specs.Prelude.{ℕ, ℤ, ◌+◌, ◌-◌, ◌*◌, ◌/◌, ◌%◌, ◌^◌, ◌==◌, Bool, true, false, List, [], ◌∷◌, ◌++◌, length, take, slice_index, nat_lt, if◌then◌else◌}
use Rattle.bay_ber.specs.declared.tag.Tag.{Tag}
use Rattle.bay_ber.specs.Spelling.{octet_of}
use Rattle.std.specs.Int.{w64, bytes_high_first, to_be_bytes, cast_unsigned}

-- ---- X.690 8.1.3, 10.1: the shortest length

-- how many octets a length of 128 or more needs after the first
abbrev pub octets_needed : ℕ → ℕ
octets_needed n =
    if nat_lt n 0x100 then 1
    else (if nat_lt n 0x1_0000 then 2 else (if nat_lt n 0x100_0000 then 3 else 4))

-- the shortest encoding of a length
unfoldable pub length_octets : ℕ → List ℕ
length_octets n =
    if nat_lt n 128 then n ∷ [] else (128 + octets_needed n) ∷ bytes_high_first (octets_needed n) n

-- a tag of one octet, the shortest length, and the content (X.690 8.1.1)
unfoldable pub element : Tag → List ℕ → List ℕ
element tag content = octet_of tag ∷ (length_octets (length content) ++ content)

-- the number of octets of an encoded value whose content has `count` octets (own)
abbrev pub element_length : ℕ → ℕ
element_length count = if nat_lt count 128 then count + 2 else count + 2 + octets_needed count

-- ---- X.690 8.2, 11.1: booleans

-- TRUE is FF, and FALSE is 00.
abbrev pub truth_octets : Bool → List ℕ
truth_octets true = 255 ∷ []
truth_octets false = 0 ∷ []

-- ---- X.690 8.3: integers

-- Whether the first of two octets and bit 8 of the second are all zeros or all ones: the first is
-- then redundant.
abbrev pub is_needless : ℕ → ℕ → Bool
is_needless first second = if nat_lt second 128 then first == 0 else first == 255

-- octets without redundant leading ones
abbrev pub without_needless : List ℕ → List ℕ
without_needless [] = []
without_needless (first ∷ []) = first ∷ []
without_needless (first ∷ second ∷ octets) =
    if is_needless first second then without_needless (second ∷ octets) else first ∷ second ∷ octets

-- an integer of 64 bits in two's complement, without redundant octets
abbrev pub integer_octets : ℤ → List ℕ
integer_octets value = without_needless (to_be_bytes w64 (cast_unsigned w64 value))

-- ---- X.690 8.6, 11.2: bit strings

-- an octet with 0 in its unused bits, which are the lowest
abbrev pub with_unused_clear : ℕ → ℕ → ℕ
with_unused_clear unused octet = octet / 2 ^ unused * 2 ^ unused

-- the octets of the first bits, with 0 in the unused bits of the last
abbrev pub bit_octets : List ℕ → ℕ → List ℕ
bit_octets octets count =
    if count % 8 == 0
    then take (count / 8) octets
    else take (count / 8) octets
    ++ with_unused_clear (8 - count % 8) (slice_index octets (count / 8)) ∷ []

-- how many bits of the last octet are unused
abbrev pub unused_bits : ℕ → ℕ
unused_bits count = if count % 8 == 0 then 0 else 8 - count % 8

-- the number of unused bits, and the octets of the bits
abbrev pub bit_string_octets : List ℕ → ℕ → List ℕ
bit_string_octets octets count = unused_bits count ∷ bit_octets octets count
