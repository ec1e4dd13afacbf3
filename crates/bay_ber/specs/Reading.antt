-- The value that octets begin with.
use Rattle.std.specs.Prelude.{ℕ, ◌≡◌, ◌-◌, ◌/◌, ◌%◌, ◌<◌, ◌≤◌, ◌==◌, Bool, List, [], ◌∷◌, ◌++◌, length, take, drop, Result, Ok, Err, nat_lt, if◌then◌else◌}
use Rattle.bay_base.specs.Results.{◌>>=◌}
use Rattle.bay_ber.specs.declared.fault.BerFault.{BerFault}
use Rattle.bay_ber.specs.declared.fault.BerFault.TheVariants.{Truncated, Indefinite, LengthTooLong, TagTooLarge}
use Rattle.bay_ber.specs.declared.tag.Class.{Class}
use Rattle.bay_ber.specs.declared.tag.Class.TheVariants.{Universal, Application, ContextSpecific, Private}
use Rattle.bay_ber.specs.declared.tlv.Tlv.{Tlv}
use Rattle.bay_ber.specs.declared.tag.Tag.{Tag}
use Rattle.bay_ber.specs.Octets.{number_of}
use Rattle.bay_ber.specs.Spelling.{IsTag, Spells}

-- ---- own: the value that octets begin with

-- a value that was read, and the octets after it, as values, without the slices they borrow from
pub record TlvData : Type 0 where
  pub tag : Tag
  pub content : List ℕ
  pub rest : List ℕ

-- the view of a value that was read
abbrev pub tlv_data : Tlv → TlvData
tlv_data t = record { tag = t.tag; content = t.content.now; rest = t.rest.now }

-- A prefix of the octets encodes the value, and the rest follows it.
pub record BeginsWithTlv (octets : List ℕ) (r : TlvData) : Type 0 where
  pub front : List ℕ
  pub spelled : Spells front r.tag r.content
  pub parts : octets ≡ front ++ r.rest

-- Some prefix of the octets encodes a value.
abbrev pub IsPrefixSpelled : List ℕ → Type 0
IsPrefixSpelled octets = (r : TlvData) × BeginsWithTlv octets r

-- The first octet has 31 in its low five bits, and an octet of 128 or more follows it (X.690
-- 8.1.2.4).
abbrev pub HasLargeTag : List ℕ → Type 0
HasLargeTag (first ∷ second ∷ octets) = (first % 32 ≡ 31) × (128 ≤ second)
HasLargeTag octets = ⊥

-- The octets begin with a tag, followed by this octet as the first of the length (X.690 8.1.3).
pub record HasLengthOctet (octets : List ℕ) (octet : ℕ) : Type 0 where
  pub tag : Tag
  pub front : List ℕ
  pub rest : List ℕ
  pub is_tag : IsTag front tag
  pub parts : octets ≡ front ++ octet ∷ rest

-- The first octet of the length is 0x80: the indefinite form (X.690 8.1.3.6).
abbrev pub IsIndefinite : List ℕ → Type 0
IsIndefinite octets = HasLengthOctet octets 128

-- The first octet of the length is above 0x84: more than four octets of length follow (X.690
-- 8.1.3.5).
abbrev pub HasLongLength : List ℕ → Type 0
HasLongLength octets = (octet : ℕ) × (132 < octet) × HasLengthOctet octets octet

-- None of these holds, and no prefix encodes a value.
pub record IsTruncated (octets : List ℕ) : Type 0 where
  pub no_large_tag : HasLargeTag octets → ⊥
  pub not_indefinite : IsIndefinite octets → ⊥
  pub no_long_length : HasLongLength octets → ⊥
  pub not_spelled : IsPrefixSpelled octets → ⊥

-- ---- X.690 8.1.2: tags, read from the left; laws prove that this agrees with the relations above

-- the class, in bits 8 and 7 of the first tag octet (X.690 8.1.2.2)
abbrev pub class_of : ℕ → Class
class_of first =
    if nat_lt first 64 then Universal
    else (if nat_lt first 128 then Application
    else (if nat_lt first 192 then ContextSpecific else Private))

-- whether the value is constructed, in bit 6 (X.690 8.1.2.5)
abbrev pub is_constructed : ℕ → Bool
is_constructed first = (first / 32) % 2 == 1

-- the low five bits: the number, or 31 if the number follows
abbrev pub low_bits : ℕ → ℕ
low_bits first = first % 32

-- a tag of two octets, from the first and the octets after it (X.690 8.1.2.4)
abbrev pub two_octet_tag : ℕ → List ℕ → Result (Tag × List ℕ) BerFault
two_octet_tag first [] = Err Truncated
two_octet_tag first (second ∷ octets) =
    if nat_lt second 128 then Ok
    (record { class = class_of first; constructed = is_constructed first; number = second }, octets)
    else Err TagTooLarge

-- the tag that octets begin with, and the octets after it
unfoldable pub tag_at : List ℕ → Result (Tag × List ℕ) BerFault
tag_at [] = Err Truncated
tag_at (first ∷ octets) =
    if low_bits first == 31 then two_octet_tag first octets
    else Ok (
      record {
        class = class_of first;
        constructed = is_constructed first;
        number = low_bits first;
      },
      octets,
    )

-- ---- X.690 8.1.3: lengths, read from the left

-- the length that octets begin with, and the octets after it
unfoldable pub length_at : List ℕ → Result (ℕ × List ℕ) BerFault
length_at [] = Err Truncated
length_at (first ∷ octets) =
    if nat_lt first 128 then Ok (first, octets)
    else (if first == 128 then Err Indefinite
    else (if nat_lt 132 first then Err LengthTooLong
    else (if nat_lt (length octets) (first - 128) then Err Truncated
    else Ok (number_of (take (first - 128) octets), drop (first - 128) octets))))

-- ---- X.690 8.1.1: values, read from the left

-- the value that octets begin with, and the octets after it
unfoldable pub tlv_at : List ℕ → Result TlvData BerFault
tlv_at octets = do
  tag ← tag_at octets
  n ← length_at tag.1
  if nat_lt (length n.1) n.0 then Err Truncated
      else Ok (record { tag = tag.0; content = take n.0 n.1; rest = drop n.0 n.1 })
