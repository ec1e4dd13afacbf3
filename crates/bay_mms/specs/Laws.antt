-- Words of the laws about texts: tags, contents, plain data and depth.
use Rattle.std.specs.Prelude.{ℕ, suc, max, ◌≡◌, ◌*◌, ◌^◌, ◌<◌, ◌≤◌, FitsSigned, List, length}
use Rattle.std.specs.Int.{w64}
use Rattle.bay_ber.specs.declared.tag.Tag.{Tag}
use Rattle.bay_ber.specs.Spelling.{Spells}
use Rattle.bay_ber.specs.Writing.{truth_octets, integer_octets, bit_octets, bit_string_octets}
use Rattle.bay_ber.specs.Tags.{context, constructed}
use Rattle.bay_mms.specs.Data.{Datum, Data, structure, truth, bits, integer, unsigned, octets, text, utc, other, no_data, datum, data_text}

-- ---- ISO 9506-2 Data: tags and contents

-- the tag of data (ISO 9506-2, Data)
abbrev pub datum_tag : Datum → Tag
datum_tag (structure parts) = constructed 2
datum_tag (truth value) = context 3
datum_tag (bits value count) = context 4
datum_tag (integer value) = context 5
datum_tag (unsigned value) = context 6
datum_tag (octets value) = context 9
datum_tag (text value) = context 10
datum_tag (utc value) = context 17
datum_tag (other tag value) = tag

-- the content after the tag and the length
abbrev pub datum_content : Datum → List ℕ
datum_content (structure parts) = data_text parts
datum_content (truth value) = truth_octets value
datum_content (bits value count) = bit_string_octets value count
datum_content (integer value) = integer_octets value
datum_content (unsigned value) = integer_octets value
datum_content (octets value) = value
datum_content (text value) = value
datum_content (utc value) = value
datum_content (other tag value) = value

-- ---- own: plain data and depth

-- The octets are one value with this tag.
pub record IsOneValue (list : List ℕ) (tag : Tag) : Type 0 where
  pub content : List ℕ
  pub spelled : Spells list tag content

-- A bit string has as many octets as it needs, and its unused bits are 0.
pub record IsMinimalBits (held : List ℕ) (count : ℕ) : Type 0 where
  pub enough : count ≤ 8 * length held
  pub short : count < 2 ^ 35
  pub whole : bit_octets held count ≡ held

-- Data that can be read back from their text: integers of 64 bits, such bit strings, moments of
-- eight octets, and no data of another kind.
abbrev mutual
  pub IsPlain : Datum → Type 0
  IsPlain (structure parts) = ArePlain parts
  IsPlain (truth value) = Unit {0}
  IsPlain (bits held count) = IsMinimalBits held count
  IsPlain (integer value) = FitsSigned w64 value
  IsPlain (unsigned value) = FitsSigned w64 value
  IsPlain (octets value) = Unit {0}
  IsPlain (text value) = Unit {0}
  IsPlain (utc value) = length value ≡ 8
  IsPlain (other tag value) = ⊥

  pub ArePlain : Data → Type 0
  ArePlain no_data = Unit {0}
  ArePlain (datum first later) = IsPlain first × ArePlain later

-- the depth of data: 1 for data that are no structure; a structure is one deeper than its deepest
-- part
abbrev mutual
  pub depth_of : Datum → ℕ
  depth_of (structure parts) = suc (depth_in parts)
  depth_of d = 1

  pub depth_in : Data → ℕ
  depth_in no_data = 0
  depth_in (datum first later) = max (depth_of first) (depth_in later)
