-- How long written values are.
use Rattle.std.proofs.Common.{◌≡◌, ℕ, ◌+◌, ◌*◌, ◌^◌, ◌<◌, ◌≤◌, ℤ, List, length, arith, inl, inr}
use Rattle.std.specs.Int.{w64, to_be_bytes, cast_unsigned}
use Rattle.std.proofs.lemmas.Bool.{cases_lt, lt-ltb, le-ltb}
use Rattle.std.proofs.lemmas.List.{length-append}
use Rattle.bay_ber.specs.declared.tag.Tag.{Tag}
use Rattle.bay_ber.specs.Writing.{length_octets, element, element_length, integer_octets, bit_octets}
use Rattle.bay_ber.proofs.ShortestLemmas.{few-needed, length-short, length-long}
use Rattle.bay_ber.proofs.WriteLemmas.{length-without_needless, bit-string-is}

pub length-length_octets : (n : ℕ) → length (length_octets n) ≤ 5
length-length_octets n =
    elim (cases_lt n 128) [
      | inl small ↦ omega (arith, length-short n small)
      | inr ge ↦ omega (arith, length-long n ge, few-needed n)
    ]

-- an identifier, at most five octets of length, and the content
pub length-element : (tag : Tag) (content : List ℕ)
    → length (element tag content) ≤ length content + 6
unfolding element
length-element tag content =
    omega (
      arith,
      length-append (length_octets (length content)) content,
      length-length_octets (length content),
    )

pub length-element-is : (tag : Tag) (content : List ℕ)
    → length (element tag content) ≡ element_length (length content)
unfolding element
length-element-is tag content =
    elim (cases_lt (length content) 128) [
      | inl small ↦ rw (lt-ltb (length content) 128 small)
          (omega (
            arith,
            length-append (length_octets (length content)) content,
            length-short (length content) small,
          ))
      | inr ge ↦ rw (le-ltb (length content) 128 ge)
          (omega (
            arith,
            length-append (length_octets (length content)) content,
            length-long (length content) ge,
          ))
    ]

pub length-integer_octets : (value : ℤ) → length (integer_octets value) ≤ 8
length-integer_octets value = let size =
    length-without_needless (to_be_bytes w64 (cast_unsigned w64 value)) (omega arith) in size.1

pub length-integer : (tag : Tag) (value : ℤ) → length (element tag (integer_octets value)) ≤ 14
length-integer tag value =
    omega (arith, length-element tag (integer_octets value), length-integer_octets value)

-- no octet without a bit
pub length-bit_octets : (octets : List ℕ) (count : ℕ) → count ≤ 8 * length octets → count < 2 ^ 35
    → 8 * length (bit_octets octets count) < count + 8
length-bit_octets octets count enough short = let is =
    bit-string-is octets count enough short in omega (arith, is.1.filled, is.1.few)
